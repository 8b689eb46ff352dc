use Rattle.std.proofs.Common.{arith}
use Rattle.transcript_text.specs.ReadLines.{numbers_text, NumbersFit}
use Rattle.transcript_text.proofs.Answered.{reads_none}
use Rattle.transcript_text.proofs.LineTexts.{no_event, more_after}
use Rattle.transcript_text.proofs.StepTexts.{begins_so}
use Rattle.transcript_text.proofs.parsing.line.numbers_of.Goals as goal

pub returns-in_err-event : goal.returns-in_err-event
returns-in_err-event c =
    reads_none numbers_text NumbersFit c.args.text.now _ c.from_residual-in_err-event.ensures
    (no_event c.args.text.now c.in_ok-caller.following.now _ c.in_ok-caller.caller c.in_ok-caller.ensures.front
    (begins_so 46 c.in_ok-caller.following.now (omega arith) (omega arith)) c.in_err-event.ensures.front)

pub returns-then-not-is_empty : goal.returns-then-not-is_empty
returns-then-not-is_empty c =
    more_after c.args.text.now c.in_ok-caller.following.now _ c.in_ok-caller.caller c.in_ok-caller.ensures.front
    (begins_so 46 c.in_ok-caller.following.now (omega arith) (omega arith)) c.in_ok-event.event c.in_ok-event.rest.now
    c.in_ok-event.ensures.front (λ e. let none = rw e at c.if-not-is_empty.ensures in absurd cc)
