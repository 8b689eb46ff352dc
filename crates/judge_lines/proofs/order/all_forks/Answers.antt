use Rattle.std.proofs.Common.{refl}
use Rattle.judge_lines.specs.Called.{seen_calls}
use Rattle.judge_lines.specs.Orders.{all_forks}
use Rattle.judge_lines.proofs.Fronts.{all_done}
use Rattle.judge_lines.proofs.OwnSteps.{all_forks_next}
use Rattle.judge_lines.proofs.order.all_forks.Goals as goal

pub loop-caller-preserved : goal.loop-caller-preserved
loop-caller-preserved c = rw (c.in_ok-push_forks.ensures, c.deref.ensures.value)
    (all_forks_next c.args.callers.now c.loop-caller.caller c.index-callers-caller.result c.loop-caller.forks.items _
    c.loop-caller-test.true c.index-callers-caller.is c.loop-caller.invariant)

pub returns : goal.returns
returns c =
    all_done (λ xs. all_forks c.loop-caller.caller (seen_calls xs)) c.args.callers.now c.loop-caller.caller
    c.loop-caller.forks.items _ c.loop-caller-test.false refl c.loop-caller.invariant
