use Rattle.judge_vread.proofs.Vreads.{call_says}
use Rattle.judge_vread.proofs.laws.called_says.Goals as goal

pub returns : goal.returns
returns c = call_says
