use Rattle.std.specs.Prelude.{[]}
use Rattle.lane_table.specs.Hands.{HoldsLanes}
use Rattle.bench.proofs.feeders.irqs.Given as goal

abbrev pub invariant-loop-feeder : goal.invariant-loop-feeder
invariant-loop-feeder g l = HoldsLanes l.lanes 0 [] l.pass
