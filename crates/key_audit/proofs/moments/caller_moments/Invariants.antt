use Rattle.std.proofs.Common.{◌≡◌, ◌++◌, drop}
use Rattle.audit_keys.specs.Cut.{moment_lists}
use Rattle.key_audit.specs.EntryMoments.{caller_moments}
use Rattle.key_audit.proofs.moments.caller_moments.Given as goal

abbrev pub invariant-loop-list : goal.invariant-loop-list
invariant-loop-list l =
    moment_lists l.moments.items ++ caller_moments (drop l.list-index l.lists) ≡ caller_moments l.lists
