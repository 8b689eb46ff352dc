use Rattle.lane_table.proofs.Rule.RuleParts.{generation}
use Rattle.lane_table.proofs.laws.generation_is_the_bases.Goals as goal

pub returns : goal.returns
returns c = λ first s r. generation r
