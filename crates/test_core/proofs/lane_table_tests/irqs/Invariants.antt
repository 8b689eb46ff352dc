use Rattle.std.proofs.Common.{◌≡◌, []}
use Rattle.lane_table.specs.Calls.{view}
use Rattle.lane_table.specs.Hands.{HoldsLanes}
use Rattle.test_core.proofs.lane_table_tests.irqs.Given as goal

abbrev pub invariant-loop-event : goal.invariant-loop-event
invariant-loop-event g l = HoldsLanes l.lanes l.caller [] l.pass × ((view l.pass).share ≡ (view l.fn.pass).share)
    × ((view l.pass).halvings ≡ (view l.fn.pass).halvings)
