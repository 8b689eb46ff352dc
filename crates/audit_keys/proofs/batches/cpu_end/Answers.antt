use Rattle.std.proofs.Common.{ℕ, ◌≤◌, ◌+◌, ◌^◌, [], refl, sym, subst, arith}
use Rattle.std.proofs.lemmas.List.{length-map}
use Rattle.std.specs.List.{fold}
use Rattle.std.specs.Prelude.{take}
use Rattle.key_names.specs.Lanes.CpuList.{CpuState, cpu_start, cpu_step}
use Rattle.key_names.proofs.Lists.ListFacts.{image_at}
use Rattle.judge_log.proofs.Loops.{found}
use Rattle.judge_log.specs.declared.kept.KeptCpu.{KeptCpu}
use Rattle.audit_keys.specs.Fills.{CpuConforms}
use Rattle.audit_keys.specs.KeptEntries.{cpu_entries}
use Rattle.audit_keys.proofs.Counts.{counts_below, counted_out, on_err}
use Rattle.audit_keys.proofs.Conforms.{conforms_more, conforms_all}
use Rattle.audit_keys.proofs.batches.cpu_end.Goals as goal

pub loop-place-preserved : goal.loop-place-preserved
loop-place-preserved c = λ base.
    let es = cpu_entries c.args.lane.now in
    let place : ℕ = c.loop-place.place in
    let step = cpu_step base c.args.cpu in
    let s : CpuState = fold step cpu_start (take place es) in
    conforms_more step cpu_start CpuConforms es place _ c.step.new.self
    (image_at (λ (k : KeptCpu). k.entry) c.args.lane.now place _
    (found c.args.lane.now c.args.lane.now place _ refl c.loop-place-test.true))
    (c.in_ok-step.ensures.after s base (c.loop-place.invariant base))

pub returns-clause-end : goal.returns-clause-end
returns-clause-end c = λ base.
    let es = cpu_entries c.args.lane.now in
    let step = cpu_step base c.args.cpu in
    let s : CpuState = fold step cpu_start es in
    let h : CpuConforms s c.loop-place.place c.loop-place.keys =
    conforms_all step cpu_start CpuConforms es c.loop-place.place c.loop-place.keys
    (rw length-map c.loop-place-test.false) (c.loop-place.invariant base) in
    subst (λ n. CpuConforms s n c.loop-place.keys) (sym h.place_is) h

pub returns-in_err-step-clause-none : goal.returns-in_err-step-clause-none
returns-in_err-step-clause-none c =
    let es = cpu_entries c.args.lane.now in
    let place : ℕ = c.loop-place.place in
    let s : CpuState = fold (cpu_step [] c.args.cpu) cpu_start (take place es) in
    let high : 2 ^ 64 ≤ place + 1 = counted_out s place c.loop-place.keys _ (c.loop-place.invariant [])
    (counts_below [] c.args.cpu cpu_start (take place es) (λ w. omega arith)) c.in_err-step.ensures.none in
    on_err c.from_residual.result _ (omega (arith, high))
