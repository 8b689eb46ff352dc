use Rattle.std.proofs.Common.{◌≡◌, ◌++◌, drop}
use Rattle.audit_keys.specs.Stamped.{left_by}
use Rattle.audit_keys.proofs.caller.put_after.Given as goal

abbrev pub invariant-loop-entry : goal.invariant-loop-entry
invariant-loop-entry l =
    l.list.items ++ left_by l.call l.end (drop l.entry-index l.left)
    ≡ l.initial.list.items ++ left_by l.call l.end l.left
