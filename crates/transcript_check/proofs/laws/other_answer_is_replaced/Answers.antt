use Rattle.transcript_check.proofs.Others.{other_answer}
use Rattle.transcript_check.proofs.laws.other_answer_is_replaced.Goals as goal

pub returns : goal.returns
returns c = other_answer
