use Rattle.std.proofs.Common.{inr}
use Rattle.lane_table.specs.Meaning.{nothing}
use Rattle.lane_table.proofs.Calls.Lent.{lent}
use Rattle.rng_core.proofs.SiteLemmas.{does_map}
use Rattle.rng_core.proofs.SiteReads.{serves_base}
use Rattle.rng_core.proofs.crng.reads.draw_early.Goals as goal

pub visit_base-requires-clause-makes : goal.visit_base-requires-clause-makes
visit_base-requires-clause-makes c =
    c.draw-rest.ensures.made _ nothing (lent _ _ _ _ c.state_mut.ensures.value c.requires.holds.value)

pub returns-clause-does : goal.returns-clause-does
returns-clause-does c = does_map _ _ _ (λ effects h. record { form = inr h.form; bytes_are = h.bytes_are })
    (serves_base _ _ _ _ _ c.visit_base.ensures
    (c.draw-rest.ensures.rest _ (lent _ _ _ _ c.state_mut.ensures.value c.requires.holds.value)))
