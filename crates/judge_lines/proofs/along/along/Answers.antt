use Rattle.std.proofs.Common.{◌+◌, length, refl, ap, ◌∙◌, arith}
use Rattle.std.proofs.lemmas.List.{length_push}
use Rattle.judge_lines.proofs.Carried.{carried_next, kept_more}
use Rattle.judge_lines.proofs.along.along.Goals as goal

pub loop-step-init : goal.loop-step-init
loop-step-init g c = record {
  here = refl;
  long = ap length c.in_ok-kept.ensures.items;
  kept = λ n low. absurd (omega arith);
}

pub loop-step-preserved : goal.loop-step-preserved
loop-step-preserved g c = record {
  here = c.after-carried.ensures
      ∙ carried_next (g.C.Carry.after c.args.carry.now) (g.C.Carry.MayFollow c.args.carry.now) c.args.start
      c.loop-step.carried c.args.steps.now c.loop-step.step-index _ c.loop-step-test.true c.loop-step.invariant.here;
  long = ap length c.in_ok-push.ensures.items ∙ length_push c.loop-step.kept.items c.loop-step.carried
      ∙ ap (λ n. n + 1) c.loop-step.invariant.long;
  kept = rw c.in_ok-push.ensures.items
      (kept_more (g.C.Carry.after c.args.carry.now) (g.C.Carry.MayFollow c.args.carry.now) c.args.start
      c.loop-step.carried c.args.steps.now c.loop-step.step-index c.loop-step.kept.items c.loop-step.invariant.long
      c.loop-step.invariant.here c.loop-step.invariant.kept);
}

pub returns : goal.returns
returns g c = rw c.in_ok-push-2.ensures.items (λ n low.
    kept_more (g.C.Carry.after c.args.carry.now) (g.C.Carry.MayFollow c.args.carry.now) c.args.start
    c.loop-step.carried c.args.steps.now c.loop-step.step-index c.loop-step.kept.items c.loop-step.invariant.long
    c.loop-step.invariant.here c.loop-step.invariant.kept n (omega arith))
