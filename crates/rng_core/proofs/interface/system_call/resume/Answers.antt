use Rattle.std.proofs.Common.{[], refl}
use Rattle.rng_core.proofs.SiteReads.{serves_base}
use Rattle.rng_core.proofs.interface.system_call.resume.Goals as goal

pub returns-clause-does : goal.returns-clause-does
returns-clause-does c = serves_base _ _ [] _ _ c.visit_base.ensures refl
