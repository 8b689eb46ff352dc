use Rattle.lane_table.proofs.Rule.RuleParts.{stamps}
use Rattle.lane_table.proofs.laws.stamps_rise.Goals as goal

pub returns : goal.returns
returns c = λ first s r. stamps r
