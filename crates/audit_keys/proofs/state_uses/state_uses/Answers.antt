use Rattle.std.proofs.Common.{ℕ, refl}
use Rattle.key_names.specs.Lanes.StateList.{NamedState, state_start, state_step}
use Rattle.audit_keys.specs.UsedAt.{state_used_at}
use Rattle.judge_log.proofs.Loops.{found}
use Rattle.audit_keys.specs.StateKeys.{StateConforms}
use Rattle.audit_keys.proofs.UsesMore.{so_far_more, before}
use Rattle.audit_keys.proofs.state_uses.state_uses.Goals as goal

pub loop-place-preserved : goal.loop-place-preserved
loop-place-preserved c =
    let es = c.args.entries.now in
    let place : ℕ = c.loop-place.place in
    let step = state_step c.args.of.caller c.args.of.state in
    let s : NamedState = before (state_used_at c.args.of) step state_start StateConforms es place in
    so_far_more (state_used_at c.args.of) step state_start StateConforms es place _ c.loop-place.keys c.step.new.self
    c.loop-place.uses.items c.push_uses.new.uses.items
    (found es es place _ refl c.loop-place-test.true)
    c.loop-place.invariant
    (c.in_ok-push_uses.ensures s c.loop-place.invariant.conforms)
    (c.in_ok-step.ensures.after s place c.loop-place.invariant.conforms)
