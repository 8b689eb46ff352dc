use Rattle.std.proofs.Common.{drop}
use Rattle.std.specs.Prelude.{◌↔◌}
use Rattle.key_names.specs.Transcripts.IsTranscript.{LinesFit, EachCaller}
use Rattle.judge_lines.specs.Seen.{seen_callers}
use Rattle.judge_lines.proofs.lines.lines_fit.Given as goal

abbrev pub invariant-loop-caller : goal.invariant-loop-caller
invariant-loop-caller l =
    EachCaller (λ c events lines. LinesFit c 0 events lines) 0 l.script.callers (seen_callers l.callers)
    ↔ EachCaller (λ c events lines. LinesFit c 0 events lines) l.caller (drop l.caller l.script.callers)
    (seen_callers (drop l.caller l.callers))
