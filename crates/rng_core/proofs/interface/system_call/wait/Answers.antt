use Rattle.rng_core.proofs.SiteLemmas.{does_base}
use Rattle.rng_core.proofs.interface.system_call.wait.Goals as goal

pub returns : goal.returns
returns g c = does_base _ _ _ _ _ _ c.enter-base.ensures c.visit_base.ensures
