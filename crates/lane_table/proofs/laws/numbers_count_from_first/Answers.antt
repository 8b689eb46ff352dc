use Rattle.lane_table.proofs.Rule.RuleParts.{counts_from}
use Rattle.lane_table.proofs.laws.numbers_count_from_first.Goals as goal

pub returns : goal.returns
returns c = λ first s lane r near. counts_from r lane near
