use Rattle.std.proofs.Common.{[], refl}
use Rattle.rng_core.proofs.SiteReads.{serves_base}
use Rattle.rng_core.proofs.interface.system_call.interrupt.Goals as goal

pub returns : goal.returns
returns c = serves_base _ _ [] _ _ c.visit_base.ensures refl
