use Rattle.draw_below.proofs.Chains.{Rejects}
use Rattle.draw_below.proofs.draws.below.Given as goal

abbrev pub invariant-loop : goal.invariant-loop
invariant-loop g l = Rejects g.W.Words.gives l.c l.fn.words l.rejected l.words l.counter
