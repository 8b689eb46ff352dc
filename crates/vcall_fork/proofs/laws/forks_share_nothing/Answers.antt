use Rattle.vcall_fork.proofs.Sharing as sharing
use Rattle.vcall_fork.proofs.laws.forks_share_nothing.Goals as goal

pub returns : goal.returns
returns c = sharing.forks_share_nothing
