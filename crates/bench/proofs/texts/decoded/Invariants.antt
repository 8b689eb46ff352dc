use Rattle.std.proofs.Common.{length}
use Rattle.bench.proofs.texts.decoded.Given as goal

abbrev pub decreases-loop-line : goal.decreases-loop-line
decreases-loop-line l = length l.left
