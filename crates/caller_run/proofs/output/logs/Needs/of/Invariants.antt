use Rattle.std.proofs.Common.{◌≡◌, ◌≤◌, ◌*◌, take}
use Rattle.std.specs.Prelude.{All, sum_by}
use Rattle.caller_run.specs.Says.{most_shown}
use Rattle.caller_run.specs.Standing.{read_inside}
use Rattle.caller_run.proofs.output.logs.Needs.of.Given as goal

abbrev pub invariant-loop-event : goal.invariant-loop-event
invariant-loop-event l = record {
  shown : l.shown ≡ sum_by most_shown (take l.event-index l.events);
  longest : All (λ event. most_shown event ≤ l.longest) (take l.event-index l.events);
  inside : l.inside ≡ sum_by read_inside (take l.event-index l.events);
  few_shown : l.shown ≤ 4294967296 * l.event-index;
  few_inside : l.inside ≤ 4294967296 * l.event-index;
}
