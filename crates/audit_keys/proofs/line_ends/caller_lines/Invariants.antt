use Rattle.std.proofs.Common.{◌≡◌, ◌++◌, drop, map}
use Rattle.judge_lines.specs.Called.{seen_call}
use Rattle.audit_keys.specs.LineEnds.{line_ends}
use Rattle.audit_keys.proofs.line_ends.caller_lines.Given as goal

abbrev pub invariant-loop-number : goal.invariant-loop-number
invariant-loop-number l =
    l.lines.items ++ line_ends l.number l.over (map seen_call (drop l.number l.calls))
    ≡ line_ends 0 l.stamp (map seen_call l.calls)
