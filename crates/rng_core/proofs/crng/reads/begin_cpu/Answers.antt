use Rattle.std.proofs.Common.{inl, inr}
use Rattle.rng_core.proofs.SiteLemmas.{does_map}
use Rattle.rng_core.proofs.SiteReads.{serves_plain_read, serves_refilled_read}
use Rattle.rng_core.proofs.crng.reads.begin_cpu.Goals as goal

pub returns-then-look-cpu_generation-clause-does : goal.returns-then-look-cpu_generation-clause-does
returns-then-look-cpu_generation-clause-does g c =
    does_map _ _ _ (λ effects h. record { form = inl h.form; bytes_are = h.bytes_are })
    (serves_plain_read _ _ _ _ _ _ _ c.enter_cpu-cpu.ensures c.read_fresh.ensures.left)

pub returns-clause-does : goal.returns-clause-does
returns-clause-does g c = does_map _ _ _ (λ effects h. record { form = inr h.form; bytes_are = h.bytes_are })
    (serves_refilled_read _ _ _ _ _ _ _ _ _ c.enter_cpu-cpu.ensures c.refill-base.ensures c.read_refilled.ensures.left)
