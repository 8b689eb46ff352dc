use Rattle.transcript_check.proofs.Others.{other_data}
use Rattle.transcript_check.proofs.laws.other_data_are_replaced.Goals as goal

pub returns : goal.returns
returns c = other_data
