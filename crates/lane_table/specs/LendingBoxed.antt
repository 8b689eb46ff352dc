-- The loan of a lane's value that is kept in a box (`Boxed`).
use Rattle.std.specs.Borrow.{Lends, MutBor, Fml}
use Rattle.lane_table.specs.declared.values.LaneState.{LaneState}
use Rattle.lane_table.specs.contracts.values.Boxed.{the_row}
use Rattle.lane_table.specs.contracts.values.LaneState as value

abbrev pub LendsBoxed : MutBor LaneState → MutBor LaneState → Fml
LendsBoxed b r = Lends the_row value.the_row b r (λ state. state)
