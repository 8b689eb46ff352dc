use Rattle.std.proofs.Common.{ap, sym, ◌∙◌, arith}
use Rattle.std.proofs.lemmas.Bool.{false≢true}
use Rattle.key_names.specs.Texts.TranscriptGrammar.{transcript_text}
use Rattle.transcript_text.specs.Comparing.{Compared}
use Rattle.transcript_text.proofs.Comparing.{none_left}
use Rattle.transcript_text.proofs.printing.comparison.Comparison.is_whole.Goals as goal

pub returns-else-is_end : goal.returns-else-is_end
returns-else-is_end c =
    let i = c.self.inside in
    let text = ap (λ (s : Compared). s.text) c.self.view_is in
    let made = ap (λ (s : Compared). transcript_text s.made) c.self.view_is in (
      λ yes. absurd (false≢true (sym c.if-is_end.false ∙ yes)),
      λ whole. absurd (omega (
        arith,
        (none_left i.made i.same i.from i.piece i.place c.self.invariant
            (text ∙ whole ∙ sym made)).1,
        c.if-is_end.ensures i.made,
      )),
    )
