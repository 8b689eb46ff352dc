-- A hold while its value is lent to a caller of `state_mut`.
use Rattle.std.specs.Borrow.{Lends, MutBor, Fml}
use Rattle.lane_table.specs.declared.values.LaneState.{LaneState}
use Rattle.lane_table.specs.declared.lanes.Held.{Held}
use Rattle.lane_table.specs.contracts.lanes.Held.{the_row}
use Rattle.lane_table.specs.contracts.values.LaneState as value

-- the hold `h` with `state` as its value
abbrev pub with_state : Held → LaneState → Held
with_state h state = record h { state = state }

abbrev pub LendsState : MutBor Held → MutBor LaneState → Fml
LendsState h r = Lends the_row value.the_row h r (with_state h.now)
