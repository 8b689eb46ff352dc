use Rattle.std.proofs.Common.{inl, inr}
use Rattle.rng_core.proofs.IntFulfilling.{fits_batch}
use Rattle.rng_core.proofs.SiteLemmas.{does_map}
use Rattle.rng_core.proofs.SiteReads.{serves_batch, serves_refilled_batch}
use Rattle.rng_core.proofs.crng.integers.serve_batched.Goals as goal

pub returns-then-not-wants : goal.returns-then-not-wants
returns-then-not-wants g c = does_map _ _ _ (λ effects h. record { form = inl h.form; bytes_are = h.bytes_are })
    (serves_batch _ _ _ _ _ _ _ _ (fits_batch _ c.requires.width) c.enter_cpu-cpu.ensures c.serve.ensures)

pub returns-then-look-cpu_generation : goal.returns-then-look-cpu_generation
returns-then-look-cpu_generation g c = does_map _ _ _ (λ effects h. record { form = inl h.form; bytes_are = h.bytes_are })
    (serves_batch _ _ _ _ _ _ _ _ (fits_batch _ c.requires.width) c.enter_cpu-cpu.ensures
    c.serve-then-look-cpu_generation.ensures)

pub returns : goal.returns
returns g c = does_map _ _ _ (λ effects h. record { form = inr h.form; bytes_are = h.bytes_are })
    (serves_refilled_batch _ _ _ _ _ _ _ _ _ (fits_batch _ c.requires.width) c.enter_cpu-cpu.ensures
    c.refill-base.ensures c.serve_refilled.ensures)
