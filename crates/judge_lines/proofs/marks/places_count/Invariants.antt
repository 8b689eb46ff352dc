use Rattle.std.proofs.Common.{drop, None}
use Rattle.std.specs.Prelude.{◌↔◌}
use Rattle.judge_lines.specs.Marks.{RunsCount}
use Rattle.judge_lines.proofs.marks.places_count.Given as goal

abbrev pub invariant-loop-of : goal.invariant-loop-of
invariant-loop-of l = RunsCount None l.marks ↔ RunsCount l.last (drop l.of-index l.marks)
