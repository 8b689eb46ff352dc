use Rattle.std.specs.Prelude.{[]}
use Rattle.lane_table.specs.Hands.{HoldsLanes}
use Rattle.bench.proofs.feeders.irqs_of.Given as goal

abbrev pub invariant-loop-index : goal.invariant-loop-index
invariant-loop-index g l = HoldsLanes l.lanes 0 [] l.pass
