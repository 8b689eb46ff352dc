use Rattle.lane_table.proofs.Rule.RuleParts.{counts}
use Rattle.lane_table.proofs.laws.counts_and_shares_add_up.Goals as goal

pub returns : goal.returns
returns c = λ first s r. counts r
