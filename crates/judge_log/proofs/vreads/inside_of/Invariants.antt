use Rattle.std.proofs.Common.{◌≡◌, map, take}
use Rattle.judge_lines.specs.Called.{seen_act}
use Rattle.judge_vread.specs.Inside.{inside_of}
use Rattle.judge_log.proofs.vreads.inside_of.Given as goal

abbrev pub invariant-loop-bound : goal.invariant-loop-bound
invariant-loop-bound l = l.inside ≡ inside_of (map seen_act (take l.bound-index l.acts))
