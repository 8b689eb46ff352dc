use Rattle.std.proofs.Common.{◌≡◌, ℕ, ◌++◌, drop}
use Rattle.std.specs.Prelude.{slice_get, unwrap_or}
use Rattle.judge_lines.specs.Called.{seen_calls}
use Rattle.audit_keys.specs.Stamped.{all_kept, all_over}
use Rattle.audit_keys.proofs.lists.all_lists.Given as goal

abbrev pub invariant-loop-number : goal.invariant-loop-number
invariant-loop-number l =
    all_kept l.lists.items
    ++ all_over (λ (c : ℕ). unwrap_or (slice_get l.starts c) 0) l.number (seen_calls (drop l.number l.callers))
    ≡ all_over (λ (c : ℕ). unwrap_or (slice_get l.starts c) 0) 0 (seen_calls l.callers)
