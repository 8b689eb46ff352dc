use Rattle.lane_table.proofs.Rule.RuleParts.{known_lists}
use Rattle.lane_table.proofs.laws.known_lists_begin.Goals as goal

pub returns : goal.returns
returns c = λ first s r. known_lists r
