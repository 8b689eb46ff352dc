use Rattle.worked_cases.proofs.Refused.{fails_is_refused}
use Rattle.worked_cases.proofs.refusal.near_misses_are_refused.Goals as goal

pub returns : goal.returns
returns c = fails_is_refused
