use Rattle.std.proofs.Common.{arith}
use Rattle.key_names.specs.declared.entries.PoolEntry.TheVariants.{Mix}
use Rattle.key_names.specs.Callers.Forms.{CreditForm}
use Rattle.lane_table.specs.Meaning.{nothing}
use Rattle.lane_table.proofs.Calls.Lent.{lent}
use Rattle.rng_core.specs.Makes.{setting_of}
use Rattle.rng_core.specs.SampleEffects.{DumpConforms}
use Rattle.rng_core.specs.Sites.{own_places}
use Rattle.rng_core.proofs.SiteLemmas.{does_map, does_in_map, does_in_then, does_following}
use Rattle.rng_core.proofs.SampleCalls.{does_met, taken_after}
use Rattle.rng_core.proofs.Sampling.{dump_conforms}
use Rattle.rng_core.proofs.sources.interrupts.dump.Goals as goal

pub visit_cpu-requires-clause-makes : goal.visit_cpu-requires-clause-makes
visit_cpu-requires-clause-makes g c = c.dump-dump.ensures.made _ _ nothing (omega arith)
    (lent _ _ _ _ c.state_mut.ensures.value c.enter_own-cpu.ensures.holds.value)

pub returns : goal.returns
returns g c = let e = c.enter_own-cpu.ensures in
    let value = lent _ _ _ _ c.state_mut.ensures.value e.holds.value in
    does_following (λ set. DumpConforms (setting_of set) (own_places c.args.site.now)) _ _ _ _ e.walked e.trace
    (does_in_map _ _ _ (λ visits effects h. dump_conforms (setting_of c.enter_own-cpu.new.site.set) _ _ _ _ _ visits effects
    (taken_after _ _ _ c.requires.idle c.requires.cpu e)
    (c.dump-dump.ensures.bytes _ _ (omega arith) value) (c.dump-dump.ensures.bits _ _ (omega arith) value) h)
    (does_in_then (λ set visits. CreditForm (setting_of set) (Mix c.dump-dump.result.bytes c.dump-dump.result.bits)) 1 3
    _ _ _ (does_met _ _ _ _ tt c.visit_cpu.ensures)
    (does_map _ _ _ (λ effects h. h.form) c.add.ensures)))
