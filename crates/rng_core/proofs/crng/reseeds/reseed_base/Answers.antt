use Rattle.std.proofs.Common.{ℕ, refl}
use Rattle.key_names.specs.declared.entries.BaseEntry.TheVariants.{Reseed}
use Rattle.key_names.specs.Callers.Forms.{Rooted}
use Rattle.rng_core.specs.Makes.{setting_of}
use Rattle.rng_core.proofs.SiteLemmas.{does_following, does_formed}
use Rattle.rng_core.proofs.Rising.{reseed_rises}
use Rattle.rng_core.proofs.SiteReads.{serves_rooted}
use Rattle.rng_core.proofs.crng.reseeds.reseed_base.Goals as goal

pub returns-clause-does : goal.returns-clause-does
returns-clause-does g c = let a = c.enter-base.ensures in let b = c.extract_raising-root.ensures in
    let now = c.args.site.now.set.now in
    does_following (λ set visits. Rooted (setting_of set) (λ (r : ℕ). Reseed r now)) 2 _ _ _ a.walked a.trace
    (does_formed 2 _ _ (serves_rooted _ _ _ (λ (r : ℕ). Reseed r now) _ _ _ _ b.same b.room b.visited.1
    c.visit_base.ensures refl))

pub returns-clause-rises : goal.returns-clause-rises
returns-clause-rises g c = reseed_rises c.args.site.now c.enter-base.new.self c.extract_raising-root.new.self
    c.visit_base.new.self _ _ _ _ _ _ c.enter-base.ensures c.extract_raising-root.ensures
    c.visit_base.ensures.visited
