use Rattle.std.proofs.Common.{◌≡◌, ℕ, ◌<◌, length}
use Rattle.judge_lines.specs.Called.{seen_calls}
use Rattle.judge_lines.proofs.AlongOrders.{KeptOf}
use Rattle.judge_lines.proofs.along.all_may_follow.Given as goal

abbrev pub invariant-loop-caller : goal.invariant-loop-caller
invariant-loop-caller g l = record {
  long : length l.kept.items ≡ l.caller;
  each : (p : ℕ) → p < l.caller →
      KeptOf (g.C.Carry.after l.carry) (g.C.Carry.MayFollow l.carry) (seen_calls l.callers) p l.kept.items;
}
