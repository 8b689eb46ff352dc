use Rattle.std.proofs.Common.{◌≡◌, ◌++◌, drop}
use Rattle.key_audit.specs.EntryMoments.{all_moments}
use Rattle.key_audit.specs.Moments.{state_moments_in}
use Rattle.key_audit.proofs.moments.state_moments.Given as goal

abbrev pub invariant-loop-lists : goal.invariant-loop-lists
invariant-loop-lists l =
    state_moments_in l.moments.items ++ all_moments (drop l.lists-index l.callers) ≡ all_moments l.callers
