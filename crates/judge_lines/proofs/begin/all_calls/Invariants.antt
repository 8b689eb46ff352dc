use Rattle.std.proofs.Common.{◌≡◌, ◌++◌, drop}
use Rattle.key_names.specs.Callers.Calls.{all_calls}
use Rattle.key_names.specs.Transcripts.IsTranscript.{LinesFit, EachCaller, script_calls}
use Rattle.judge_lines.specs.Seen.{seen_callers}
use Rattle.judge_lines.specs.Called.{seen_calls}
use Rattle.judge_lines.proofs.begin.all_calls.Given as goal

abbrev pub invariant-loop-caller : goal.invariant-loop-caller
invariant-loop-caller l = record {
  calls : seen_calls l.calls.items
      ++ all_calls (drop l.caller l.script.callers) (seen_callers (drop l.caller l.lines))
      ≡ script_calls l.script (seen_callers l.lines);
  fits : EachCaller (λ c events lines. LinesFit c 0 events lines) l.caller (drop l.caller l.script.callers)
      (seen_callers (drop l.caller l.lines));
}
