use Rattle.std.proofs.Common.{◌≡◌, ◌++◌, map, drop, length}
use Rattle.judge_lines.specs.Called.{seen_call}
use Rattle.judge_lines.specs.Orders.{forks_in}
use Rattle.judge_lines.proofs.order.push_forks.Given as goal

abbrev pub invariant-loop-number : goal.invariant-loop-number
invariant-loop-number l =
    l.forks.items ++ forks_in l.caller l.number (length l.own.items) (map seen_call (drop l.number l.calls))
    ≡ l.initial.forks.items ++ forks_in l.caller 0 0 (map seen_call l.calls)
