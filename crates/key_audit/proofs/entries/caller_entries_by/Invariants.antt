use Rattle.std.proofs.Common.{◌≡◌, ◌++◌, drop, map}
use Rattle.audit_keys.specs.StateCut.{lists_by}
use Rattle.key_audit.proofs.entries.caller_entries_by.Given as goal

abbrev pub invariant-loop-list : goal.invariant-loop-list
invariant-loop-list l =
    map (λ es. es.items) l.entries.items ++ lists_by l.cut (drop l.list-index l.lists) ≡ lists_by l.cut l.lists
