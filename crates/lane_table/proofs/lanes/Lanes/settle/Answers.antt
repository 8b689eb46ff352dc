use Rattle.std.proofs.Common.{rules, arith}
use Rattle.lane_table.proofs.Rule.Looking.{settled}
use Rattle.lane_table.proofs.lanes.Lanes.settle.Goals as goal

pub load-generation-requires : goal.load-generation-requires
load-generation-requires c = let p = c.requires in (search rules, omega arith, settled _ _ _ _ (omega arith))
