use Rattle.std.proofs.Common.{◌++◌, List, refl, ap, ◌∙◌}
use Rattle.key_names.specs.declared.events.Event.TheVariants.{Reseed}
use Rattle.key_names.specs.Callers.Effects.{Effect}
use Rattle.key_names.specs.Transcripts.SeenLine.{no_data}
use Rattle.rng_core.specs.Makes.{IsOutcomeOf, setting_of, result_answer}
use Rattle.rng_core.proofs.SiteLemmas.{does_map, does_then}
use Rattle.rng_core.proofs.sources.samples.vmfork.Goals as goal

pub returns : goal.returns
returns g c =
    does_map _ _ _ (λ effects h. record {
      form = record {
        pool = h.before.form.pool;
        rest = h.rest;
        effects_are = h.effects_are ∙ ap (λ (l : List Effect). l ++ h.rest) h.before.form.effects_are;
        mixes = h.before.form.is;
        reseeds = h.following.form;
      };
      answers = refl;
      shows = refl;
    })
    (does_then (λ set. IsOutcomeOf (setting_of set) Reseed (result_answer c.reseed.result) no_data) 1 3 _ _ _
    c.device.ensures.does c.reseed.ensures.does)
