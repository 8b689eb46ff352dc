use Rattle.std.proofs.Common.{map, refl}
use Rattle.std.specs.Global.{Vec}
use Rattle.key_names.specs.declared.names.Step.{Step}
use Rattle.key_names.specs.Callers.History.{calls_steps}
use Rattle.judge_lines.specs.Called.{seen_calls}
use Rattle.judge_lines.proofs.Fronts.{all_done, map_last}
use Rattle.judge_lines.proofs.OwnSteps.{all_own_next}
use Rattle.judge_lines.proofs.order.all_own_steps.Goals as goal

pub loop-calls-preserved : goal.loop-calls-preserved
loop-calls-preserved c = rw (
  c.in_ok-push.ensures.items,
  map_last (λ (own : Vec Step). own.items) c.loop-calls.owns.items c.in_ok-own_steps.field-0,
  c.in_ok-own_steps.ensures,
  c.deref.ensures.value,
)
    (all_own_next c.args.callers.now c.loop-calls.calls-index c.calls-item.result _ _ c.loop-calls-test.true
    c.calls-item.is c.loop-calls.invariant)

pub returns : goal.returns
returns c = all_done (λ xs. map calls_steps (seen_calls xs)) c.args.callers.now c.loop-calls.calls-index _ _
    c.loop-calls-test.false refl c.loop-calls.invariant
