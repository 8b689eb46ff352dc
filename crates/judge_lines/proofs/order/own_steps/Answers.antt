use Rattle.std.proofs.Common.{map, refl}
use Rattle.key_names.specs.Callers.History.{calls_steps}
use Rattle.judge_lines.specs.Called.{seen_call}
use Rattle.judge_lines.proofs.Fronts.{all_done}
use Rattle.judge_lines.proofs.OwnSteps.{own_next}
use Rattle.judge_lines.proofs.order.own_steps.Goals as goal

pub loop-call-preserved : goal.loop-call-preserved
loop-call-preserved c = rw c.in_ok-push_call.ensures
    (own_next c.args.calls.now c.loop-call.call-index c.call-item.result c.loop-call.own.items _ c.loop-call-test.true
    c.call-item.is c.loop-call.invariant)

pub returns : goal.returns
returns c = all_done (λ xs. calls_steps (map seen_call xs)) c.args.calls.now c.loop-call.call-index
    c.loop-call.own.items _ c.loop-call-test.false refl c.loop-call.invariant
