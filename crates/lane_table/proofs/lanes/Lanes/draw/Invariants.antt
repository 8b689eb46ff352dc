use Rattle.std.proofs.Common.{◌≡◌}
use Rattle.lane_table.proofs.lanes.Lanes.draw.Given as goal

abbrev pub invariant-loop : goal.invariant-loop
invariant-loop g l = (l.pass.seat.table_id ≡ l.initial.pass.seat.table_id) × (l.pass.seat.me ≡ l.initial.pass.seat.me)
    × (l.pass.stamp ≡ l.initial.pass.stamp) × (l.pass.caller ≡ l.initial.pass.caller)
