use Rattle.std.proofs.Common.{length}
use Rattle.caller_run.specs.RunningCallers.{RanPlain}
use Rattle.caller_run.proofs.forking.running_callers.RunningCaller.run_plain.Given as goal

abbrev pub invariant-loop-event : goal.invariant-loop-event
invariant-loop-event g l = RanPlain l.shared.lanes.now l.fn.events l.fn.self l.rest l.self

abbrev pub decreases-loop-event : goal.decreases-loop-event
decreases-loop-event g l = length l.rest
