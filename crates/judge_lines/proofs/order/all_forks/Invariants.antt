use Rattle.std.proofs.Common.{◌≡◌, ◌++◌, drop}
use Rattle.judge_lines.specs.Called.{seen_calls}
use Rattle.judge_lines.specs.Orders.{all_forks}
use Rattle.judge_lines.proofs.order.all_forks.Given as goal

abbrev pub invariant-loop-caller : goal.invariant-loop-caller
invariant-loop-caller l =
    l.forks.items ++ all_forks l.caller (seen_calls (drop l.caller l.callers)) ≡ all_forks 0 (seen_calls l.callers)
