use Rattle.std.proofs.Common.{◌≡◌, drop}
use Rattle.judge_lines.specs.Orders.{front_in}
use Rattle.judge_lines.proofs.order.front_of.Given as goal

abbrev pub invariant-loop-fork : goal.invariant-loop-fork
invariant-loop-fork l = front_in l.child (drop l.fork-index l.forks) ≡ front_in l.child l.forks
