use Rattle.std.proofs.Common.{sym, ◌∙◌, arith}
use Rattle.key_names.specs.declared.events.Event.TheVariants.{Irq}
use Rattle.key_names.specs.declared.events.Answer.TheVariants.{Ok as Done}
use Rattle.key_names.specs.Transcripts.SeenLine.{no_data}
use Rattle.lane_table.specs.Meaning.{nothing}
use Rattle.lane_table.proofs.Calls.Lent.{lent}
use Rattle.rng_core.specs.Makes.{IsOutcomeOf, setting_of}
use Rattle.rng_core.specs.SampleEffects.{Sampled, DumpConforms}
use Rattle.rng_core.specs.Sites.{own_places}
use Rattle.rng_core.proofs.SiteLemmas.{does_in_map, does_in_then, does_following, does_within}
use Rattle.rng_core.proofs.SampleCalls.{does_met, visit_below}
use Rattle.rng_core.proofs.Sampling.{sample_quiet, sample_dumped}
use Rattle.rng_core.proofs.sources.interrupts.irq.Goals as goal

pub visit_cpu-requires-clause-makes : goal.visit_cpu-requires-clause-makes
visit_cpu-requires-clause-makes g c = c.sample-due.ensures.made _ _ nothing (omega arith)
    (lent _ _ _ _ c.state_mut.ensures.value c.enter_own-cpu.ensures.holds.value)

pub returns-then-not-due : goal.returns-then-not-due
returns-then-not-due g c = let e = c.enter_own-cpu.ensures in
    let due = c.sample-due.ensures.due _ _ (omega arith) (lent _ _ _ _ c.state_mut.ensures.value e.holds.value) in
    does_following (λ set. Sampled (IsOutcomeOf (setting_of set) (Irq c.args.v1 c.args.v2) Done no_data)) _ _ _ _
    e.walked e.trace (does_within 1 5 _ _ (omega arith)
    (does_in_map _ _ _ (λ visits effects h. sample_quiet (setting_of c.enter_own-cpu.new.site.set) _ _ _ _ visits effects
    (sym due ∙ c.if-not-due.true) h)
    (does_met _ _ _ _ tt c.visit_cpu.ensures)))

pub returns : goal.returns
returns g c = let e = c.enter_own-cpu.ensures in let set = c.enter_own-cpu.new.site.set in
    let due = c.sample-due.ensures.due _ _ (omega arith) (lent _ _ _ _ c.state_mut.ensures.value e.holds.value) in
    does_following (λ set. Sampled (IsOutcomeOf (setting_of set) (Irq c.args.v1 c.args.v2) Done no_data)) _ _ _ _
    e.walked e.trace
    (does_in_map _ _ _ (λ visits effects h. sample_dumped (setting_of set) _ _ _ _ _ visits effects
    (sym due ∙ c.if-not-due.false) (visit_below _ _ _ _ c.visit_cpu.ensures) h)
    (does_in_then (λ set. DumpConforms (setting_of set) (own_places c.visit_cpu.new.self)) 1 4 _ _ _
    (does_met _ _ _ _ tt c.visit_cpu.ensures) c.dump.ensures))
