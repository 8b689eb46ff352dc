use Rattle.vcall_fork.proofs.Forking as forking
use Rattle.vcall_fork.proofs.laws.forks_are_recorded.Goals as goal

pub returns : goal.returns
returns c = forking.forks_are_recorded
