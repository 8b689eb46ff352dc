use Rattle.std.proofs.Common.{◌≡◌, ◌++◌, map, drop}
use Rattle.key_names.specs.Callers.Calls.{calls_from, calls_of}
use Rattle.judge_lines.specs.Seen.{seen_bare}
use Rattle.judge_lines.specs.Called.{seen_act, seen_call}
use Rattle.judge_lines.proofs.called.caller_calls.Given as goal

abbrev pub invariant-loop-number : goal.invariant-loop-number
invariant-loop-number l =
    map seen_call l.calls.items
    ++ calls_from (map seen_act l.waiting.items) (drop l.number l.events) (map seen_bare (drop l.number l.lines))
    ≡ calls_of l.events (map seen_bare l.lines)
