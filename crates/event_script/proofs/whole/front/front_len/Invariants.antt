use Rattle.std.proofs.Common.{length, ◌≤◌}
use Rattle.event_script.proofs.Fronts.{HasFront}
use Rattle.event_script.proofs.whole.front.front_len.Given as goal

abbrev pub invariant-loop-line : goal.invariant-loop-line
invariant-loop-line l = record {
  front : HasFront l.text l.left;
  short : length l.left ≤ length l.text;
}

abbrev pub decreases-loop-line : goal.decreases-loop-line
decreases-loop-line l = length l.left
