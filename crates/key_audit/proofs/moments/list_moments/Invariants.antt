use Rattle.std.proofs.Common.{◌≡◌, ◌++◌, drop}
use Rattle.key_audit.specs.EntryMoments.{entry_moments}
use Rattle.key_audit.proofs.moments.list_moments.Given as goal

abbrev pub invariant-loop-entry : goal.invariant-loop-entry
invariant-loop-entry l = l.moments.items ++ entry_moments (drop l.entry-index l.list) ≡ entry_moments l.list
