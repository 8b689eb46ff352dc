use Rattle.std.proofs.Common.{◌+◌, ◌-◌, ◌≡◌, ◌≤◌}
use Rattle.tool_ends.proofs.Taking.{TakenSoFar}
use Rattle.tool_ends.proofs.feeding.feed_to_limit.Given as goal

abbrev pub invariant-loop-taken : goal.invariant-loop-taken
invariant-loop-taken g l = record {
  so_far : TakenSoFar (g.S.Source.left l.fn.source) (g.S.Source.left l.source) (λ text. g.F.TextTaker.was_fed l.fn.maker text l.fed)
      l.taken;
  counted : g.S.Source.faults l.source ≡ g.S.Source.faults l.fn.source;
  within : l.taken ≤ l.fn.limit + 1;
}

abbrev pub decreases-loop-taken : goal.decreases-loop-taken
decreases-loop-taken g l = l.fn.limit + 1 - l.taken
