use Rattle.std.proofs.Common.{ℕ, Some, refl}
use Rattle.key_names.specs.declared.entries.BaseEntry.TheVariants.{Tick}
use Rattle.rng_core.proofs.SiteLemmas.{does_formed}
use Rattle.rng_core.proofs.SiteReads.{serves_rooted}
use Rattle.rng_core.proofs.crng.reseeds.fire.Goals as goal

pub returns : goal.returns
returns g c = let b = c.extract_raising-root.ensures in
    does_formed 2 _ _ (serves_rooted _ _ _ (λ (r : ℕ). Tick c.args.site.now.set.now (Some r)) _ _ _ _ b.same b.room
    b.visited.1 c.visit_base.ensures refl)
