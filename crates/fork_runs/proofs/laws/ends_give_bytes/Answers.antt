use Rattle.fork_runs.proofs.Serving as proved
use Rattle.fork_runs.proofs.laws.ends_give_bytes.Goals as goal

pub returns : goal.returns
returns c = proved.ends_give_bytes
