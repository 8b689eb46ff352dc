use Rattle.std.proofs.Common.{rules, arith}
use Rattle.lane_table.proofs.Rule.Splitting.{splits}
use Rattle.lane_table.proofs.lanes.Lanes.split.Goals as goal

pub split_seat-seat-requires : goal.split_seat-seat-requires
split_seat-seat-requires c = let p = c.requires in (search rules, omega arith, splits _ _ _ (omega arith))
