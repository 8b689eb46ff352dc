use Rattle.std.proofs.Common.{◌≡◌, length}
use Rattle.judge_lines.specs.Called.{seen_calls}
use Rattle.judge_lines.proofs.SettingsFound.{EachFound}
use Rattle.judge_lines.proofs.settings.all_settings.Given as goal

abbrev pub invariant-loop-caller : goal.invariant-loop-caller
invariant-loop-caller l = record {
  long : length l.settings.items ≡ l.caller;
  each : EachFound (seen_calls l.callers) l.settings.items;
}
