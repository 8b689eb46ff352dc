use Rattle.std.proofs.Common.{ℕ, arith}
use Rattle.key_names.specs.declared.entries.BaseEntry.TheVariants.{Reseed}
use Rattle.key_names.specs.Callers.Forms.{Rooted}
use Rattle.rng_core.specs.Makes.{setting_of}
use Rattle.rng_core.proofs.Fulfilling.{reseed_unready, reseed_ready}
use Rattle.rng_core.proofs.SiteLemmas.{does_map, does_within, does_look, does_found}
use Rattle.rng_core.proofs.crng.reseeds.reseed.Goals as goal

pub returns-then-look-eq0-clause-does : goal.returns-then-look-eq0-clause-does
returns-then-look-eq0-clause-does g c = does_within 1 3 _ _ (omega arith) (does_map 1 _ _
    (λ effects e. reseed_unready (setting_of c.args.site.now.set) c.look.result effects c.if-look-eq0.true e)
    (does_look _ _ _ c.look.ensures))

pub returns-clause-does : goal.returns-clause-does
returns-clause-does g c = does_map 3 _ _ (λ effects h. reseed_ready (setting_of c.args.site.now.set) c.look.result effects h.rest
    (let n = c.if-look-eq0.false in omega arith) h.effects_are h.holds)
    (does_found (λ set. Rooted (setting_of set) (λ (r : ℕ). Reseed r set.now)) 2 c.look.result _ _ _
    c.look.ensures.looked c.reseed_base.ensures.does)

pub returns-clause-rises : goal.returns-clause-rises
returns-clause-rises g c = λ ok. let k = c.look.ensures.looked in let a = k.above in let b = k.known in
    let d = c.reseed_base.ensures.rises in omega arith
