use Rattle.std.proofs.Common.{length}
use Rattle.judge_lines.proofs.order.+push_at_point.Given as goal

abbrev pub decreases-push_at_point : goal.decreases-push_at_point
decreases-push_at_point l = length l.acts.now
