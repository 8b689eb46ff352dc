use Rattle.std.proofs.Common.{ℕ, Some, refl}
use Rattle.key_names.specs.declared.entries.BaseEntry.TheVariants.{Early}
use Rattle.rng_core.proofs.SiteLemmas.{does_formed}
use Rattle.rng_core.proofs.SiteReads.{serves_rooted}
use Rattle.rng_core.proofs.crng.reseeds.seed_early.Goals as goal

pub returns : goal.returns
returns g c = let b = c.extract-root.ensures in
    does_formed 2 _ _ (serves_rooted _ _ _ (λ (r : ℕ). Early (Some r)) _ _ _ _ b.same b.room b.visited.1
    c.visit_base.ensures refl)
