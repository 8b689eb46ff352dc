use Rattle.fork_runs.proofs.Coming as proved
use Rattle.fork_runs.proofs.laws.first_attempt_comes.Goals as goal

pub returns : goal.returns
returns c = proved.first_attempt_comes
