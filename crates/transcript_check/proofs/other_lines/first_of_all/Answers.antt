use Rattle.std.proofs.Common.{◌≡◌, ℕ, ◌<◌, length, subst, ◌∙◌, arith}
use Rattle.key_names.specs.Lanes.Book.{list_at}
use Rattle.key_names.specs.Transcripts.SeenLine.{SeenLine}
use Rattle.judge_log.specs.declared.said.MadeLine.{MadeLine}
use Rattle.serial_replay.specs.Remade.{said_lists}
use Rattle.serial_replay.proofs.WrittenLines.{lines_at, said_at}
use Rattle.transcript_check.specs.Others.{IsOtherAt}
use Rattle.transcript_check.proofs.other_lines.first_of_all.Goals as goal

pub returns-in-Some : goal.returns-in-Some
returns-in-Some g c =
    let n : ℕ = c.loop-caller.caller in
    let Is : SeenLine → MadeLine → Type 0 = g.P.SaidPart.IsSaid c.args.part.now in
    let low : n < length c.args.said.now =
    (let e = c.callers-caller-end.ensures.number in omega (arith, c.loop-caller-test.true, c.requires)) in
    let said : c.deref.result.now ≡ list_at (said_lists c.args.said.now) n =
    c.deref.ensures.value ∙ said_at c.args.said.now n c.index-said-caller.result low c.index-said-caller.is in
    let lines : c.caller-lines.result.now.lines ≡ list_at c.args.t.now n = c.caller-lines.ensures ∙ lines_at c.args.t.now n in
    let found : IsOtherAt Is c.deref.result.now c.caller-lines.result.now.lines c.in-Some.line =
    rw c.in-Some.is at c.first_of_caller.ensures in
    subst (λ ls. IsOtherAt Is (list_at (said_lists c.args.said.now) n) ls c.in-Some.line) lines
    (subst (λ ones. IsOtherAt Is ones c.caller-lines.result.now.lines c.in-Some.line) said found)
