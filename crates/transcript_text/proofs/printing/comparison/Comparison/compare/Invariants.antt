use Rattle.std.proofs.Common.{◌≡◌, ◌++◌, List, ℕ, length}
use Rattle.transcript_text.proofs.printing.comparison.Comparison.compare.Given as goal

abbrev pub invariant-loop-self : goal.invariant-loop-self
invariant-loop-self l = record {
  made : l.self.made ≡ l.fn.self.made;
  front : List ℕ;
  parts : l.fn.bytes ≡ front ++ l.rest;
  text : l.self.text ≡ l.fn.self.text ++ front;
}

abbrev pub decreases-loop-self : goal.decreases-loop-self
decreases-loop-self l = length l.rest
