use Rattle.std.proofs.Common.{length, rules, ap, ◌∙◌, arith}
use Rattle.std.proofs.lemmas.List.{length-map}
use Rattle.lane_table.proofs.Calls.HandLemmas.{idle_of}
use Rattle.transcript_text.specs.Gathered.{Gathered}
use Rattle.caller_run.specs.ForkTree.{emitted_by}
use Rattle.caller_run.specs.Plans.{lines_in}
use Rattle.caller_run.specs.Layouts.{layout}
use Rattle.caller_run.proofs.Forks.AllCallers.{can_all, slots_there, last_there, whole_ran}
use Rattle.caller_run.proofs.Planning.Planned.{slots_back}
use Rattle.caller_run.proofs.run.run_plan.Goals as goal

pub run_first-pass-requires : goal.run_first-pass-requires
run_first-pass-requires g c = let r = c.requires in
    rw c.first.ensures (search rules, (search rules, can_all r.has r.well r.cpus r.plan))

pub gather-requires : goal.gather-requires
gather-requires g c =
    let r = c.requires in let back = rw c.first.ensures at c.run_first-pass.ensures in
    slots_there (can_all r.has r.well r.cpus r.plan) back (length c.deref_mut.result.now)
    (ap length c.deref_mut.ensures.value ∙ r.plan.slots')

pub of-requires-clause-last : goal.of-requires-clause-last
of-requires-clause-last g c =
    let slots = c.args.plan.slots in let r = c.requires in
    let back = rw c.first.ensures at c.run_first-pass.ensures in
    last_there (can_all r.has r.well r.cpus r.plan) back (lines_in slots.items) _
    (length-map slots.items (λ (x : Gathered). x.lines) ∙ r.plan.slots')
    (slots_back slots.len slots.items c.deref_mut.result.now c.gather.new.slots
    (emitted_by (layout c.run_first-pass.result.1)) c.deref_mut.ensures.value (omega (arith, slots.ok.0)) c.gather.ensures)

pub returns-clause-whole : goal.returns-clause-whole
returns-clause-whole g c =
    let slots = c.args.plan.slots in let r = c.requires in
    let back = rw c.first.ensures at c.run_first-pass.ensures in
    whole_ran (can_all r.has r.well r.cpus r.plan) back (lines_in slots.items) c.of.result
    (length-map slots.items (λ (x : Gathered). x.lines) ∙ r.plan.slots')
    (c.of.ensures.lines
    ∙ slots_back slots.len slots.items c.deref_mut.result.now c.gather.new.slots
    (emitted_by (layout c.run_first-pass.result.1)) c.deref_mut.ensures.value (omega (arith, slots.ok.0)) c.gather.ensures)
    c.settle.new.pass c.settle.ensures.same
    (λ share. c.settle.ensures.ended share
    (idle_of c.args.shared.now.lanes.now 0 c.run_first-pass.result.0 back.has))
