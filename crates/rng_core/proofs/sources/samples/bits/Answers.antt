use Rattle.lane_table.proofs.Calls.Lent.{lent}
use Rattle.rng_core.proofs.SampleCalls.{does_bits}
use Rattle.rng_core.proofs.sources.samples.bits.Goals as goal

pub returns : goal.returns
returns g c = does_bits _ _ _ _ _ _ c.enter-pool.ensures c.visit_pool.ensures
    (c.bits-bits.ensures _ (lent _ _ _ _ c.state.ensures c.enter-pool.ensures.holds.value))
