use Rattle.std.proofs.Common.{map, take}
use Rattle.judge_lines.specs.Marks.{seen_mark}
use Rattle.key_audit.specs.Moments.{HasMarks}
use Rattle.key_audit.proofs.moments.moments_of_marks.Given as goal

abbrev pub invariant-loop-of : goal.invariant-loop-of
invariant-loop-of l = HasMarks l.cpus (map seen_mark (take l.of-index l.marks)) l.moments
