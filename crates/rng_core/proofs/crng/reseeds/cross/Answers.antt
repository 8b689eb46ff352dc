use Rattle.std.proofs.Common.{refl, sym, subst}
use Rattle.key_names.specs.Callers.Forms.{Cross}
use Rattle.input_pool.specs.declared.pool.Crossing.{Crossing}
use Rattle.input_pool.specs.PoolConforms.{crossing_of}
use Rattle.rng_core.specs.Makes.{setting_of}
use Rattle.rng_core.specs.Sites.{Does}
use Rattle.rng_core.proofs.SiteLemmas.{does_nothing}
use Rattle.rng_core.proofs.crng.reseeds.cross.Goals as goal

pub returns-in-None : goal.returns-in-None
returns-in-None g c = let s = c.args.site.now in
    subst (λ (z : Crossing). Does 2 (Cross (setting_of s.set) (crossing_of z)) s s) (sym c.in-None.is)
    (does_nothing 2 s c.requires.idle refl)

pub returns-in-Early : goal.returns-in-Early
returns-in-Early g c = let s = c.args.site.now in
    subst (λ (z : Crossing). Does 2 (Cross (setting_of s.set) (crossing_of z)) s c.cross_early.new.site)
    (sym c.in-Early.is) c.cross_early.ensures

pub returns-in-Ready : goal.returns-in-Ready
returns-in-Ready g c = let s = c.args.site.now in
    subst (λ (z : Crossing). Does 2 (Cross (setting_of s.set) (crossing_of z)) s c.reseed_base.new.site)
    (sym c.in-Ready.is) c.reseed_base.ensures.does
