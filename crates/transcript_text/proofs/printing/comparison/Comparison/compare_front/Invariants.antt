use Rattle.std.proofs.Common.{◌≡◌, take}
use Rattle.key_names.specs.Texts.TranscriptGrammar.{transcript_text}
use Rattle.transcript_text.specs.Comparing.{IsBefore}
use Rattle.transcript_text.specs.Places.{most_pieces}
use Rattle.transcript_text.proofs.printing.comparison.Comparison.compare_front.Given as goal

abbrev pub invariant-loop-self : goal.invariant-loop-self
invariant-loop-self l =
    let c = l.self-inside in
    record {
      conforms : IsBefore c.made c.same c.piece c.from c.place;
      made : c.made ≡ l.fn.self.made;
      text : take c.same (transcript_text c.made) ≡ l.fn.self.text;
    }

abbrev pub decreases-loop-self : goal.decreases-loop-self
decreases-loop-self l = most_pieces l.self-inside.place l.self-inside.made
