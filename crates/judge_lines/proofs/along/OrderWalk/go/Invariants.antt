use Rattle.std.proofs.Common.{take}
use Rattle.judge_lines.specs.Along.{HasGone}
use Rattle.judge_lines.proofs.along.OrderWalk.go.Given as goal

abbrev pub invariant-loop-step : goal.invariant-loop-step
invariant-loop-step g l =
    HasGone (g.C.Carry.after l.carry) (g.C.Carry.MayFollow l.carry) l.initial.self (take l.step-index l.steps) l.self
