use Rattle.std.proofs.Common.{◌≡◌, map, take}
use Rattle.key_names.specs.Transcripts.SameSteps.{bare}
use Rattle.judge_lines.specs.Seen.{seen_bare}
use Rattle.judge_lines.proofs.seen.bare_lines.Given as goal

abbrev pub invariant-loop-number : goal.invariant-loop-number
invariant-loop-number l = map seen_bare l.bares.items ≡ map bare (take l.number l.lines.lines)
