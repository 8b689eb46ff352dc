use Rattle.std.proofs.Common.{◌≡◌, map, take}
use Rattle.judge_log.specs.Met.{met_at}
use Rattle.judge_log.proofs.met.put_met.Given as goal

abbrev pub invariant-loop-step : goal.invariant-loop-step
invariant-loop-step l = l.met.items ≡ map (met_at l.lists) (take l.step-index l.steps)
