use Rattle.std.proofs.Common.{refl}
use Rattle.rng_core.proofs.SiteLemmas.{does_map, does_cpu, visit_at}
use Rattle.rng_core.proofs.crng.cpus.online.Goals as goal

pub returns : goal.returns
returns g c = let a = c.enter-held.ensures in
    does_map _ _ _ (λ effects h. record { form = h; answers = refl; shows = refl })
    (does_cpu _ _ _ _ _ _ _ tt a (visit_at _ _ _ _ _ _ a.holds.lane_is c.visit.ensures))
