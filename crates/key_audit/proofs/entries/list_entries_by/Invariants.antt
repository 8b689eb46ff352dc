use Rattle.std.proofs.Common.{◌≡◌, ◌++◌, drop}
use Rattle.audit_keys.specs.StateCut.{entries_by}
use Rattle.key_audit.proofs.entries.list_entries_by.Given as goal

abbrev pub invariant-loop-one : goal.invariant-loop-one
invariant-loop-one l = l.entries.items ++ entries_by l.cut (drop l.one-index l.list) ≡ entries_by l.cut l.list
