use Rattle.std.proofs.Common.{◌≡◌, ◌++◌, drop, map}
use Rattle.audit_keys.specs.Entries.{lists_in}
use Rattle.key_audit.proofs.entries.caller_entries.Given as goal

abbrev pub invariant-loop-list : goal.invariant-loop-list
invariant-loop-list l = map (λ es. es.items) l.entries.items ++ lists_in (drop l.list-index l.lists) ≡ lists_in l.lists
