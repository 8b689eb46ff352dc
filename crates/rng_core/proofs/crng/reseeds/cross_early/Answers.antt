use Rattle.std.proofs.Common.{inl, inr, arith}
use Rattle.key_names.specs.Callers.Forms.{Cross}
use Rattle.key_names.specs.Lanes.PoolList.{early}
use Rattle.rng_core.specs.Makes.{setting_of}
use Rattle.rng_core.proofs.SiteLemmas.{does_map, does_within, does_following, does_base}
use Rattle.rng_core.proofs.crng.reseeds.cross_early.Goals as goal

pub returns-then-eq : goal.returns-then-eq
returns-then-eq g c = let a = c.enter-base.ensures in
    does_following (λ set visits. Cross (setting_of set) early) 2 _ _ _ a.walked a.trace
    (does_map 2 _ _ (λ effects h. inl h) c.seed_early.ensures)

pub returns : goal.returns
returns g c = does_map 2 _ _ (λ effects h. inr h)
    (does_within 1 2 _ _ (omega arith) (does_base _ _ _ _ _ _ c.enter-base.ensures c.visit_base.ensures))
