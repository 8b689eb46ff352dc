use Rattle.std.proofs.Common.{◌≡◌, ℕ, ◌<◌, List, length, refl, sym, subst, ◌∙◌, arith}
use Rattle.std.specs.List.{AllByRecursion}
use mathlib.Core.Logic.{dite}
use native.Mathlib.Decide.{ℕ_discrete}
use Rattle.key_names.specs.Lanes.Book.{list_at}
use Rattle.key_names.specs.Transcripts.SeenLine.{SeenLine}
use Rattle.transcript_check.specs.declared.compare.Same.{Same}
use Rattle.serial_replay.specs.Agreement.{Agrees}
use Rattle.serial_replay.specs.Remade.{said_lists}
use Rattle.serial_replay.proofs.WrittenLines.{lines_at, said_at}
use Rattle.transcript_check.proofs.LinesAgree.{moved}
use Rattle.transcript_check.proofs.compare.all_agree.Goals as goal

pub returns-then-not-lines_agree : goal.returns-then-not-lines_agree
returns-then-not-lines_agree g c =
    let n : ℕ = c.loop-caller.caller in
    let Q : List Same → List SeenLine → Type 0 = λ said lines.
    AllByRecursion (Agrees (λ _. g.P.Part.IsSame c.args.part.now) said) lines in
    let low : n < length c.args.t.now = (let e = c.callers-caller-end.ensures.number in omega (arith, c.loop-caller-test.true)) in
    let low' : n < length c.args.noted.now = omega (arith, c.requires) in
    let said : c.deref.result.now ≡ list_at (said_lists c.args.noted.now) n =
    c.deref.ensures.value ∙ said_at c.args.noted.now n c.index-noted-caller.result low' c.index-noted-caller.is in
    let lines : c.caller.result.now.lines ≡ list_at c.args.t.now n = c.caller.ensures ∙ lines_at c.args.t.now n in (
      (λ h. cc),
      (λ all. c.if-not-lines_agree.ensures.1
          (moved Q (list_at (said_lists c.args.noted.now) n) c.deref.result.now (list_at c.args.t.now n)
          c.caller.result.now.lines (sym said) (sym lines) (all n low))),
    )

pub loop-caller-preserved : goal.loop-caller-preserved
loop-caller-preserved g c =
    let n : ℕ = c.loop-caller.caller in
    let Q : List Same → List SeenLine → Type 0 = λ said lines.
    AllByRecursion (Agrees (λ _. g.P.Part.IsSame c.args.part.now) said) lines in
    let low : n < length c.args.t.now = (let e = c.callers-caller-end.ensures.number in omega (arith, c.loop-caller-test.true)) in
    let low' : n < length c.args.noted.now = omega (arith, c.requires) in
    let said : c.deref.result.now ≡ list_at (said_lists c.args.noted.now) n =
    c.deref.ensures.value ∙ said_at c.args.noted.now n c.index-noted-caller.result low' c.index-noted-caller.is in
    let lines : c.caller.result.now.lines ≡ list_at c.args.t.now n = c.caller.ensures ∙ lines_at c.args.t.now n in
    let here : Q (list_at (said_lists c.args.noted.now) n) (list_at c.args.t.now n) =
    moved Q c.deref.result.now (list_at (said_lists c.args.noted.now) n) c.caller.result.now.lines (list_at c.args.t.now n) said
    lines (c.if-not-lines_agree.ensures.0 refl) in
    λ k k_low. dite (ℕ_discrete k n)
    (λ e. subst (λ m. Q (list_at (said_lists c.args.noted.now) m) (list_at c.args.t.now m)) (sym e) here)
    (λ ne. c.loop-caller.invariant k (omega arith))
