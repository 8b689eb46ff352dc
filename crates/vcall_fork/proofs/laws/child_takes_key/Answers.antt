use Rattle.vcall_fork.proofs.Forking as forking
use Rattle.vcall_fork.proofs.laws.child_takes_key.Goals as goal

pub returns : goal.returns
returns c = forking.child_takes_key
