use Rattle.std.proofs.Common.{◌≡◌, ◌-◌, ◌≤◌, [], length, replicate}
use Rattle.audit_keys.specs.Outline.{wiped_outline}
use Rattle.audit_keys.specs.Stamped.{kept_lists}
use Rattle.audit_keys.proofs.caller.AuditedCaller.start.Given as goal

abbrev pub invariant-loop-alloc : goal.invariant-loop-alloc
invariant-loop-alloc l =
    (length l.lists.items ≤ 16) × (l.outlines.items ≡ replicate (length l.lists.items) wiped_outline)
    × (kept_lists l.lists.items ≡ replicate (length l.lists.items) [])

abbrev pub decreases-loop-alloc : goal.decreases-loop-alloc
decreases-loop-alloc l = 16 - length l.lists.items
