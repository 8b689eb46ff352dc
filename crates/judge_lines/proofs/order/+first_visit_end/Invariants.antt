use Rattle.std.proofs.Common.{length}
use Rattle.judge_lines.proofs.order.+first_visit_end.Given as goal

abbrev pub decreases-first_visit_end : goal.decreases-first_visit_end
decreases-first_visit_end l = length l.steps.now
