use Rattle.std.proofs.Common.{◌≡◌, ℕ, ◌<◌, Some, length, take}
use Rattle.std.specs.Prelude.{slice_get}
use Rattle.std.specs.List.{fold}
use Rattle.judge_lines.proofs.along.along.Given as goal

abbrev pub invariant-loop-step : goal.invariant-loop-step
invariant-loop-step g l = record {
  here : l.carried ≡ fold (g.C.Carry.after l.carry) l.fn.start (take l.step-index l.steps);
  long : length l.kept.items ≡ l.step-index;
  kept : (n : ℕ) → n < l.step-index → slice_get l.kept.items n
      ≡ Some (fold (g.C.Carry.after l.carry) l.fn.start (take n l.steps));
}
