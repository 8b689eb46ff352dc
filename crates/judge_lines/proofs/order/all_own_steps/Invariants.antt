use Rattle.std.proofs.Common.{◌≡◌, ◌++◌, map, drop}
use Rattle.key_names.specs.Callers.History.{calls_steps}
use Rattle.judge_lines.specs.Called.{seen_calls}
use Rattle.judge_lines.proofs.order.all_own_steps.Given as goal

abbrev pub invariant-loop-calls : goal.invariant-loop-calls
invariant-loop-calls l =
    map (λ own. own.items) l.owns.items ++ map calls_steps (seen_calls (drop l.calls-index l.callers))
    ≡ map calls_steps (seen_calls l.callers)
