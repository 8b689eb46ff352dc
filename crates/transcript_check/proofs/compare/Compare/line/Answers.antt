use Rattle.std.proofs.Common.{◌≡◌, sym, ap, ◌∙◌, arith}
use Rattle.std.specs.Prelude.{slice_get}
use Rattle.key_names.specs.Lanes.Book.{list_at}
use Rattle.serial_replay.proofs.WrittenLines.{lines_at}
use Rattle.transcript_check.proofs.Compared.{none_after, none_of_another}
use Rattle.transcript_check.proofs.compare.Compare.line.Goals as goal

pub returns-then-caller-callers : goal.returns-then-caller-callers
returns-then-caller-callers c = λ line is.
    none_of_another c.args.self.now.t.now c.args.caller c.args.event line
    (let e = c.callers.ensures.number in omega (arith, c.if-caller-callers.true)) is

pub returns-then-event-len : goal.returns-then-event-len
returns-then-event-len c = λ line is.
    let lines : c.caller-lines.result.now.lines ≡ list_at c.args.self.now.t.now c.args.caller =
    c.caller-lines.ensures ∙ lines_at c.args.self.now.t.now c.args.caller in
    none_after c.caller-lines.result.now.lines c.args.event line
    (let e = c.len.ensures in omega (arith, c.if-event-len.true)) (ap (λ xs. slice_get xs c.args.event) lines ∙ is)

pub returns : goal.returns
returns c =
    let lines : c.caller-lines.result.now.lines ≡ list_at c.args.self.now.t.now c.args.caller =
    c.caller-lines.ensures ∙ lines_at c.args.self.now.t.now c.args.caller in
    ap (λ xs. slice_get xs c.args.event) (sym lines) ∙ c.line.ensures.line
