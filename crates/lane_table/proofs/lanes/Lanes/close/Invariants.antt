use Rattle.std.proofs.Common.{◌≡◌, ℕ, ◌+◌, ◌*◌, ◌^◌, ◌<◌, ◌≤◌, true, false, get_or, take}
use Rattle.std.specs.List.{sum_by}
use Rattle.lane_table.specs.Calls.{view, made_in}
use Rattle.lane_table.proofs.lanes.Lanes.close.Given as goal

abbrev pub invariant-loop-lane : goal.invariant-loop-lane
invariant-loop-lane l = ((k : ℕ) → l.lane ≤ k → k < l.closed.slots.len → get_or l.closed.slots.filled k false ≡ true)
    × ((k : ℕ) → k < l.lane → get_or l.closed.slots.filled k false ≡ false)
    × (l.closed.slots.len ≡ l.cpus + 2) × (l.closed.slots.items ≡ l.initial.closed.slots.items)
    × (l.visits ≡ sum_by made_in (take l.lane (view l.fn.pass).lanes)) × (l.visits ≤ l.lane * 2 ^ 64)
