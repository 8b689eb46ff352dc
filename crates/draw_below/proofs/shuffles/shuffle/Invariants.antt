use Rattle.draw_below.proofs.Steps.{IsSoFar}
use Rattle.draw_below.proofs.shuffles.shuffle.Given as goal

abbrev pub invariant-loop-done : goal.invariant-loop-done
invariant-loop-done g l = IsSoFar g.W.Words.gives l.fn.list l.fn.words l.list l.words l.rejected l.done
