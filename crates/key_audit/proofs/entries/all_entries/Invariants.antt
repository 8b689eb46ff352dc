use Rattle.std.proofs.Common.{◌≡◌, ◌++◌, drop}
use Rattle.audit_keys.specs.Listed.{caller_lists}
use Rattle.audit_keys.specs.Entries.{all_lists_in}
use Rattle.key_audit.proofs.entries.all_entries.Given as goal

abbrev pub invariant-loop-lists : goal.invariant-loop-lists
invariant-loop-lists l =
    caller_lists l.entries.items ++ all_lists_in (drop l.lists-index l.callers) ≡ all_lists_in l.callers
