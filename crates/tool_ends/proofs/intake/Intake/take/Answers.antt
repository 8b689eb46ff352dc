use Rattle.std.proofs.Common.{◌≡◌, ◌++◌, ◌∙◌, ap, sym, subst, length}
use Rattle.tool_ends.specs.Intakes.{HasEndLine, last_part}
use Rattle.tool_ends.proofs.EndLines.{no_end_line}
use Rattle.tool_ends.proofs.FrontStays.{end_stays}
use Rattle.tool_ends.proofs.Taking.{on_ok}
use Rattle.tool_ends.proofs.intake.Intake.take.Goals as goal

pub returns-else-has_end_line-clause-taken : goal.returns-else-has_end_line-clause-taken
returns-else-has_end_line-clause-taken g c = λ input taken.
    let piece = c.args.piece.now in
    let taken = rw c.in-Front.is at taken in
    let all : input ++ piece ≡ c.extend_from_slice.new.self.items =
    ap (λ text. text ++ piece) taken.0 ∙ sym c.in_ok-extend_from_slice-in-Front.ensures.items in (
      all,
      no_end_line input piece taken.1 (λ last.
          let is = c.if-has_end_line.ensures.came.1
          (subst (λ text. HasEndLine (last_part (length piece) text)) (all ∙ sym c.deref.ensures.value) last) in cc),
    )

pub returns-in-Opened-clause-taken : goal.returns-in-Opened-clause-taken
returns-in-Opened-clause-taken g c =
    on_ok c.take.result (λ stays input taken.
    let taken = rw c.in-Opened.is at taken in
    (end_stays input c.args.piece.now taken.0, stays input taken.0 taken.1)) c.take.ensures.opened
