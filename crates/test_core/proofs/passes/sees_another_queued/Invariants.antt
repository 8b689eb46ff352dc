use Rattle.std.proofs.Common.{◌≡◌, []}
use Rattle.lane_table.specs.Calls.{view}
use Rattle.lane_table.specs.Hands.{HoldsLanes}
use Rattle.test_core.proofs.passes.sees_another_queued.Given as goal

abbrev pub invariant-loop : goal.invariant-loop
invariant-loop l = HoldsLanes l.lanes l.caller [] l.pass × ((view l.pass).share ≡ (view l.initial.pass).share)
    × ((view l.pass).halvings ≡ (view l.initial.pass).halvings)
