use Rattle.std.proofs.Common.{◌≤◌, take}
use Rattle.std.specs.Prelude.{All}
use Rattle.caller_run.specs.Alone.{IsEmittedOnce}
use Rattle.caller_run.specs.Says.{most_shown}
use Rattle.caller_run.proofs.alone.longest_line.Given as goal

abbrev pub invariant-loop-event : goal.invariant-loop-event
invariant-loop-event l = record {
  once : All IsEmittedOnce (take l.event-index l.events);
  longest : All (λ event. most_shown event ≤ l.longest) (take l.event-index l.events);
}
