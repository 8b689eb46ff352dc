use Rattle.std.proofs.Common.{map, drop}
use Rattle.std.specs.Prelude.{◌↔◌}
use Rattle.key_names.specs.Transcripts.IsTranscript.{LinesFit}
use Rattle.judge_lines.specs.Seen.{seen_bare}
use Rattle.judge_lines.proofs.lines.caller_fits.Given as goal

abbrev pub invariant-loop-number : goal.invariant-loop-number
invariant-loop-number l =
    LinesFit l.caller 0 l.events (map seen_bare l.lines)
    ↔ LinesFit l.caller l.number (drop l.number l.events) (map seen_bare (drop l.number l.lines))
