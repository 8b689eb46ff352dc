use Rattle.std.proofs.Common.{◌≡◌}
use Rattle.transcript_text.specs.Feeding.{most_lines}
use Rattle.transcript_text.specs.Places.{most_pieces}
use Rattle.transcript_text.proofs.Comparing.{FedSoFar}
use Rattle.transcript_text.proofs.printing.comparison.Comparison.reader.Given as goal

abbrev pub invariant-loop-left : goal.invariant-loop-left
invariant-loop-left l = record {
  fed : FedSoFar l.self-inside.made l.self-inside.same l.left l.place l.reader;
  most : most_lines l.reader ≡ l.fn.most;
}

abbrev pub decreases-loop-left : goal.decreases-loop-left
decreases-loop-left l = most_pieces l.place l.self-inside.made
