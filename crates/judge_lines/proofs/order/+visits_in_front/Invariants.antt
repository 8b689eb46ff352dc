use Rattle.std.proofs.Common.{length}
use Rattle.judge_lines.proofs.order.+visits_in_front.Given as goal

abbrev pub decreases-visits_in_front : goal.decreases-visits_in_front
decreases-visits_in_front l = length l.steps.now
