use Rattle.lane_table.proofs.Rule.RuleParts.{values}
use Rattle.lane_table.proofs.laws.values_are_replays.Goals as goal

pub returns : goal.returns
returns c = λ first s r. values r
