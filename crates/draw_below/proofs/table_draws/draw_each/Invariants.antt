use Rattle.draw_below.proofs.Folds.{IsAnswered}
use Rattle.draw_below.proofs.table_draws.draw_each.Given as goal

abbrev pub invariant-loop : goal.invariant-loop
invariant-loop g l = IsAnswered g.W.Words.gives l.c l.fn.words l.words l.counter l.answers.items
