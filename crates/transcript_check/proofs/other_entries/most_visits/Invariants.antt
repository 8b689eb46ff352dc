use Rattle.std.proofs.Common.{◌-◌, ◌≤◌, length}
use Rattle.transcript_check.proofs.other_entries.most_visits.Given as goal

abbrev pub invariant-loop-most : goal.invariant-loop-most
invariant-loop-most l = record {
  within : l.most ≤ length l.visits;
  rising : l.least ≤ l.most;
}

abbrev pub decreases-loop-most : goal.decreases-loop-most
decreases-loop-most l = l.most - l.least
