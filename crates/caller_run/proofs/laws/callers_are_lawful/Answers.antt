use Rattle.caller_run.proofs.Law.Whole.{lawful_runs}
use Rattle.caller_run.proofs.laws.callers_are_lawful.Goals as goal

pub returns : goal.returns
returns c = λ script runs w ok ran. lawful_runs script runs w ok ran
