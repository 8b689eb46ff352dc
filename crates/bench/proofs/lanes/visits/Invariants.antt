use Rattle.std.proofs.Common.{[]}
use Rattle.lane_table.specs.Hands.{HoldsLanes}
use Rattle.bench.proofs.lanes.visits.Given as goal

abbrev pub invariant-loop-event : goal.invariant-loop-event
invariant-loop-event g l = HoldsLanes l.lanes 0 [] l.pass
