use Rattle.std.proofs.Common.{length}
use Rattle.judge_lines.proofs.along.OrderWalk.+go_at_point.Given as goal

abbrev pub decreases-go_at_point : goal.decreases-go_at_point
decreases-go_at_point g l = length l.acts.now
