use Rattle.std.proofs.Common.{◌≡◌, map, drop}
use Rattle.judge_lines.specs.Called.{seen_call}
use Rattle.audit_keys.specs.Stamped.{first_states, states_from}
use Rattle.audit_keys.proofs.lists.caller_lists.Given as goal

-- the remaining calls lead from the present states to the same states as all calls from the first states
abbrev pub invariant-loop-number : goal.invariant-loop-number
invariant-loop-number l =
    states_from l.number l.caller (map seen_call (drop l.number l.calls))
    ≡ states_from 0 (first_states l.stamp) (map seen_call l.calls)
