use Rattle.std.proofs.Common.{◌+◌, cond}
use Rattle.key_audit.proofs.Passes.{ClosesUp, unknown}
use Rattle.key_audit.proofs.edges.reached_by.Given as goal

abbrev pub invariant-loop-more : goal.invariant-loop-more
invariant-loop-more l = ClosesUp l.edges l.start l.known l.more

abbrev pub decreases-loop-more : goal.decreases-loop-more
decreases-loop-more l = unknown l.edges l.known + cond l.more 1 0
