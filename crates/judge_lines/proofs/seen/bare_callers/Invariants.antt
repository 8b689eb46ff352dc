use Rattle.std.proofs.Common.{◌≡◌, map, take}
use Rattle.key_names.specs.Transcripts.SameSteps.{bare}
use Rattle.judge_lines.specs.Seen.{seen_callers}
use Rattle.judge_lines.proofs.seen.bare_callers.Given as goal

abbrev pub invariant-loop-caller : goal.invariant-loop-caller
invariant-loop-caller l = seen_callers l.callers.items ≡ map (map bare) (take l.caller l.t)
