use Rattle.std.proofs.Common.{ℕ, ◌≡◌, ◌≤◌, ◌+◌, ◌^◌, refl, sym, subst, arith}
use Rattle.std.specs.List.{fold}
use Rattle.std.specs.Prelude.{take}
use Rattle.key_names.specs.Lanes.StateList.{NamedState, state_start, state_step}
use Rattle.judge_log.proofs.Loops.{found}
use Rattle.audit_keys.specs.Rests.{BatchConforms}
use Rattle.audit_keys.proofs.Counts.{refills_below, refilled_out, on_err}
use Rattle.audit_keys.proofs.Conforms.{conforms_more, conforms_all}
use Rattle.audit_keys.proofs.batches.state_end.Goals as goal

pub loop-entry-preserved : goal.loop-entry-preserved
loop-entry-preserved c =
    let es = c.args.entries.now in
    let place : ℕ = c.loop-entry.entry-index in
    let step = state_step c.args.of.caller c.args.of.state in
    let s : NamedState = fold step state_start (take place es) in
    conforms_more step state_start BatchConforms es place _ c.step.new.self
    (found es es place _ refl c.loop-entry-test.true)
    (c.in_ok-step.ensures.after s place c.loop-entry.invariant)

pub returns-clause-end : goal.returns-clause-end
returns-clause-end c =
    let step = state_step c.args.of.caller c.args.of.state in
    let s : NamedState = fold step state_start c.args.entries.now in
    let h : BatchConforms s c.loop-entry.entry-index c.loop-entry.batch =
    conforms_all step state_start BatchConforms c.args.entries.now c.loop-entry.entry-index c.loop-entry.batch
    c.loop-entry-test.false c.loop-entry.invariant in
    subst (λ n. BatchConforms s n c.loop-entry.batch) (sym h.keys.place_is) h

pub returns-in_err-step-clause-none : goal.returns-in_err-step-clause-none
returns-in_err-step-clause-none c =
    let of = c.args.of in
    let place : ℕ = c.loop-entry.entry-index in
    let s : NamedState = fold (state_step of.caller of.state) state_start (take place c.args.entries.now) in
    let h = c.loop-entry.invariant in
    let low : s.refills ≤ s.place =
    refills_below of.caller of.state state_start (take place c.args.entries.now) (omega arith) in
    let are : c.loop-entry.batch.keys.refills ≡ s.refills = h.keys.refills in
    let at : s.place ≡ place = h.keys.place_is in
    let high : 2 ^ 64 ≤ c.loop-entry.batch.keys.refills + 1 =
    refilled_out c.loop-entry.batch.keys.refills _ c.in_err-step.ensures.none in
    on_err c.from_residual.result _ (omega (arith, low, are, at, high))
