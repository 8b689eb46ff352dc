use Rattle.lane_table.proofs.Rule.RuleParts.{lawful_so_far}
use Rattle.lane_table.proofs.laws.lists_are_lawful_so_far.Goals as goal

pub returns : goal.returns
returns c = λ first s r. lawful_so_far r
