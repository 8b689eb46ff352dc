use Rattle.fork_runs.proofs.Coming as proved
use Rattle.fork_runs.proofs.laws.second_attempt_comes.Goals as goal

pub returns : goal.returns
returns c = proved.second_attempt_comes c.forks_are_recorded.ensures
