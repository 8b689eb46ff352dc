use Rattle.std.proofs.Common.{◌≡◌, ◌++◌, map, drop}
use Rattle.key_names.specs.Callers.History.{calls_steps}
use Rattle.judge_lines.specs.Called.{seen_call}
use Rattle.judge_lines.proofs.order.own_steps.Given as goal

abbrev pub invariant-loop-call : goal.invariant-loop-call
invariant-loop-call l =
    l.own.items ++ calls_steps (map seen_call (drop l.call-index l.calls)) ≡ calls_steps (map seen_call l.calls)
