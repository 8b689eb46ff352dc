use Rattle.judge_lines.proofs.Carried.{gone_all, gone_more, gone_nowhere}
use Rattle.judge_lines.proofs.along.OrderWalk.go.Goals as goal

pub loop-step-init : goal.loop-step-init
loop-step-init g c = gone_nowhere (g.C.Carry.after c.args.carry.now) (g.C.Carry.MayFollow c.args.carry.now) c.args.self.now

pub loop-step-preserved : goal.loop-step-preserved
loop-step-preserved g c = gone_more (g.C.Carry.after c.args.carry.now) (g.C.Carry.MayFollow c.args.carry.now)
    c.args.self.now c.loop-step.self c.pass.new.self c.args.steps.now c.loop-step.step-index _ c.loop-step-test.true
    c.loop-step.invariant c.pass.ensures

pub returns : goal.returns
returns g c = gone_all (g.C.Carry.after c.args.carry.now) (g.C.Carry.MayFollow c.args.carry.now) c.args.self.now
    c.loop-step.self c.args.steps.now c.loop-step.step-index c.loop-step-test.false c.loop-step.invariant
