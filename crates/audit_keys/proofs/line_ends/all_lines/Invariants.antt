use Rattle.std.proofs.Common.{◌≡◌, ℕ, ◌++◌, drop}
use Rattle.std.specs.Prelude.{slice_get, unwrap_or}
use Rattle.judge_lines.specs.Called.{seen_calls}
use Rattle.audit_keys.specs.LineEnds.{all_line_ends, lines_in}
use Rattle.audit_keys.proofs.line_ends.all_lines.Given as goal

abbrev pub invariant-loop-number : goal.invariant-loop-number
invariant-loop-number l =
    lines_in l.lines.items
    ++ all_line_ends (λ (c : ℕ). unwrap_or (slice_get l.starts c) 0) l.number (seen_calls (drop l.number l.callers))
    ≡ all_line_ends (λ (c : ℕ). unwrap_or (slice_get l.starts c) 0) 0 (seen_calls l.callers)
