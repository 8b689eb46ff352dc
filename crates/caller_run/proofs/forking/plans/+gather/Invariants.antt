use Rattle.std.proofs.Common.{length, map}
use Rattle.caller_run.specs.ForkTree.{fork_tree_of, emitted_by, emitted_in}
use Rattle.caller_run.specs.Layouts.{layout}
use Rattle.caller_run.proofs.Planning.Planned.{GatheredSoFar}
use Rattle.caller_run.proofs.forking.plans.+gather.Given as goal

abbrev pub decreases-gather : goal.decreases-gather
decreases-gather l = length (emitted_by (layout l.room))

abbrev pub invariant-loop-kid : goal.invariant-loop-kid
invariant-loop-kid l = GatheredSoFar l.fn.slots l.slots (emitted_by (layout l.fn.room)) (fork_tree_of (map layout l.kids.items))

abbrev pub decreases-loop-kid : goal.decreases-loop-kid
decreases-loop-kid l = length (emitted_in (fork_tree_of (map layout l.kids.items)))
