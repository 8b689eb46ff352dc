use Rattle.event_script.proofs.LoadSteps.{pushed_call}
use Rattle.event_script.proofs.load.load_events.Goals as goal

pub loop-number-preserved : goal.loop-number-preserved
loop-number-preserved c = pushed_call c.args.start c.args.callers c.loop-number.number c.args.caller
    c.loop-number.events.items _ c.in_ok-call.field-0 c.in_ok-push-2.ensures.items c.loop-number.invariant
    c.in_ok-call.ensures
