use Rattle.std.proofs.Common.{refl}
use Rattle.lane_table.proofs.Calls.Lent.{lent}
use Rattle.rng_core.proofs.SiteLemmas.{does_map}
use Rattle.rng_core.proofs.SampleCalls.{does_credit}
use Rattle.rng_core.proofs.sources.samples.input.Goals as goal

pub visit_pool-requires-clause-makes : goal.visit_pool-requires-clause-makes
visit_pool-requires-clause-makes g c = c.mix_input-crossing.ensures.made _
    (lent _ _ _ _ c.state_mut.ensures.value c.enter-pool.ensures.holds.value)

pub returns : goal.returns
returns g c = does_map _ _ _ (λ effects h. record { form = h; answers = refl; shows = refl })
    (does_credit _ _ _ _ _ _ _ _ c.enter-pool.ensures c.visit_pool.ensures
    (c.mix_input-crossing.ensures.crossed _ (lent _ _ _ _ c.state_mut.ensures.value c.enter-pool.ensures.holds.value))
    c.cross.ensures)
