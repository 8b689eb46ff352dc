use Rattle.std.proofs.Common.{[], ◌++◌, map, refl}
use Rattle.key_names.specs.Callers.History.{call_steps, calls_steps}
use Rattle.judge_lines.specs.Called.{seen_call}
use Rattle.judge_lines.proofs.Carried.{gone_nowhere, gone_on}
use Rattle.judge_lines.proofs.Fronts.{all_done}
use Rattle.judge_lines.proofs.OwnSteps.{own_next}
use Rattle.judge_lines.proofs.along.may_go.Goals as goal

pub loop-call-init : goal.loop-call-init
loop-call-init g c = record {
  done = [];
  gone = gone_nowhere (g.C.Carry.after c.args.carry.now) (g.C.Carry.MayFollow c.args.carry.now) c.from-walk.result;
  so_far = refl;
}

pub loop-call-preserved : goal.loop-call-preserved
loop-call-preserved g c = record {
  done = c.loop-call.invariant.done ++ call_steps (seen_call c.call-item.result);
  gone = gone_on (g.C.Carry.after c.args.carry.now) (g.C.Carry.MayFollow c.args.carry.now) c.from-walk.result
      c.loop-call.walk c.go_call.new.self c.loop-call.invariant.done (call_steps (seen_call c.call-item.result))
      c.loop-call.invariant.gone c.go_call.ensures;
  so_far = own_next c.args.calls.now c.loop-call.call-index c.call-item.result c.loop-call.invariant.done _
      c.loop-call-test.true c.call-item.is c.loop-call.invariant.so_far;
}

pub returns : goal.returns
returns g c =
    let whole = all_done (λ xs. calls_steps (map seen_call xs)) c.args.calls.now c.loop-call.call-index
    c.loop-call.invariant.done _ c.loop-call-test.false refl c.loop-call.invariant.so_far in
    let follows = c.loop-call.invariant.gone.follows in
    rw (← c.from-walk.ensures.carried, ← whole) ((λ h. (follows.0 h).1), (λ h. follows.1 (c.from-walk.ensures.follows, h)))
