use Rattle.transcript_text.proofs.FirstFaults.{one_first_fault}
use Rattle.transcript_text.proofs.laws.one_first_fault.Goals as goal

pub returns : goal.returns
returns c = one_first_fault
