use Rattle.std.proofs.Common.{arith}
use Rattle.key_audit.proofs.WordTexts.{halves_are, line_read, not_cut, not_spelt, same_line}
use Rattle.key_audit.proofs.ask.line_of.Goals as goal

pub returns-in_err-caller-clause-only : goal.returns-in_err-caller-clause-only
returns-in_err-caller-clause-only c line fits e = absurd (not_cut c.args.text.now c.in_err-caller.ensures line fits e)

pub returns-in_err-caller-2-clause-only : goal.returns-in_err-caller-2-clause-only
returns-in_err-caller-2-clause-only c line fits e =
    let h = halves_are c.args.text.now c.in_ok-caller.caller.now c.in_ok-caller.event.now c.in_ok-caller.ensures.0
    c.in_ok-caller.ensures.1 line fits e in
    absurd (not_spelt c.in_ok-caller.caller.now line.caller fits.0 c.in_err-caller-2.ensures.value h.0)

pub returns-in_err-event-clause-only : goal.returns-in_err-event-clause-only
returns-in_err-event-clause-only c line fits e =
    let h = halves_are c.args.text.now c.in_ok-caller.caller.now c.in_ok-caller.event.now c.in_ok-caller.ensures.0
    c.in_ok-caller.ensures.1 line fits e in
    absurd (not_spelt c.in_ok-caller.event.now line.event fits.1 c.in_err-event.ensures.value h.1)

pub returns-clause-found : goal.returns-clause-found
returns-clause-found c = (
  (omega (arith, c.in_ok-caller-2.ensures.range), omega (arith, c.in_ok-event.ensures.range)),
  line_read c.args.text.now c.in_ok-caller.caller.now c.in_ok-caller.event.now _ _ c.in_ok-caller.ensures.0
      c.in_ok-caller-2.ensures.value c.in_ok-event.ensures.value,
)

pub returns-clause-only : goal.returns-clause-only
returns-clause-only c line fits e =
    same_line c.args.text.now c.in_ok-caller.caller.now c.in_ok-caller.event.now _ _ c.in_ok-caller.ensures.0
    c.in_ok-caller.ensures.1 c.in_ok-caller-2.ensures.value c.in_ok-event.ensures.value line fits e
