use Rattle.std.proofs.Common.{◌≡◌, ℕ, take, drop}
use Rattle.std.specs.Prelude.{nat_lt}
use Rattle.key_names.specs.Callers.Calls.{has_vread}
use Rattle.judge_lines.proofs.called.vreads_end.Given as goal

abbrev pub invariant-loop-number : goal.invariant-loop-number
invariant-loop-number l = (k : ℕ) → has_vread (drop k (take l.number l.events)) ≡ nat_lt k l.end
