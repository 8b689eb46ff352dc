use Rattle.std.proofs.Common.{arith}
use Rattle.key_names.specs.declared.events.Event.TheVariants.{Tick}
use Rattle.key_names.specs.declared.events.Answer.TheVariants.{Fired}
use Rattle.key_names.specs.Transcripts.SeenLine.{no_data}
use Rattle.rng_core.specs.Makes.{IsOutcomeOf, setting_of}
use Rattle.rng_core.proofs.Fulfilling.{tick_idle, tick_fired}
use Rattle.rng_core.proofs.SiteLemmas.{does_map, does_within, does_following, does_base}
use Rattle.rng_core.proofs.crng.reseeds.tick.Goals as goal

pub returns-then-is_due : goal.returns-then-is_due
returns-then-is_due g c = let a = c.enter-base.ensures in
    does_following (λ set visits. IsOutcomeOf (setting_of set) Tick Fired no_data) 2 _ _ _ a.walked a.trace
    (does_map 2 _ _ (λ effects h. tick_fired _ effects h) c.fire.ensures)

pub returns : goal.returns
returns g c = does_map 2 _ _ (λ effects h. tick_idle (setting_of c.args.site.now.set) effects h)
    (does_within 1 2 _ _ (omega arith) (does_base _ _ _ _ _ _ c.enter-base.ensures c.visit_base.ensures))
