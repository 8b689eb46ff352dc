use Rattle.std.proofs.Common.{◌≡◌, ◌+◌, ◌≤◌, ◌++◌, take}
use Rattle.std.specs.Prelude.{vec_len, vec_capacity}
use Rattle.transcript_text.proofs.caller_lines.keep_steps.Given as goal

abbrev pub invariant-loop-step : goal.invariant-loop-step
invariant-loop-step l = record {
  items : l.kept.items ≡ l.fn.kept.items ++ take l.step-index l.steps;
  len : vec_len l.kept ≡ vec_len l.fn.kept + l.step-index;
  capacity : vec_capacity l.fn.kept ≤ vec_capacity l.kept;
}
