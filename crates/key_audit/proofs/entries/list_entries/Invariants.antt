use Rattle.std.proofs.Common.{◌≡◌, ◌++◌, drop}
use Rattle.audit_keys.specs.Entries.{entries_in}
use Rattle.key_audit.proofs.entries.list_entries.Given as goal

abbrev pub invariant-loop-one : goal.invariant-loop-one
invariant-loop-one l = l.entries.items ++ entries_in (drop l.one-index l.list) ≡ entries_in l.list
