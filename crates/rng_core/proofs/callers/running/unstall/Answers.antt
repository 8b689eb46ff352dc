use Rattle.std.proofs.Common.{◌+◌, List, length, ap, ◌∙◌}
use Rattle.key_names.specs.declared.names.Step.{Step}
use Rattle.rng_core.proofs.SiteLemmas.{does_base}
use Rattle.rng_core.proofs.callers.running.unstall.Goals as goal

pub returns-clause-does : goal.returns-clause-does
returns-clause-does g c = does_base _ _ _ _ _ _ c.enter-base.ensures c.visit_base.ensures

pub returns-clause-step : goal.returns-clause-step
returns-clause-step g c = c.visit_base.ensures.room ∙ ap (λ (t : List Step). length t + 1) c.enter-base.ensures.trace
