use Rattle.std.proofs.Common.{◌≡◌, ◌++◌, drop}
use Rattle.audit_keys.specs.Listed.{caller_lists}
use Rattle.audit_keys.specs.StateCut.{all_lists_by}
use Rattle.key_audit.specs.Live.{cut_at}
use Rattle.key_audit.proofs.entries.entries_until.Given as goal

abbrev pub invariant-loop-number : goal.invariant-loop-number
invariant-loop-number l =
    caller_lists l.entries.items ++ all_lists_by (cut_at l.until) l.number (drop l.number l.callers)
    ≡ all_lists_by (cut_at l.until) 0 l.callers
