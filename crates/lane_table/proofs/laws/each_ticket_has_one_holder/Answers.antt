use Rattle.lane_table.proofs.Rule.RuleParts.{tickets}
use Rattle.lane_table.proofs.laws.each_ticket_has_one_holder.Goals as goal

pub returns : goal.returns
returns c = λ first s lane r near. tickets r lane near
