use Rattle.std.proofs.Common.{◌-◌, length, map}
use Rattle.caller_run.specs.ForkTree.{fork_tree_of}
use Rattle.caller_run.specs.Layouts.{layout}
use Rattle.caller_run.proofs.Planning.Planned.{PreparedSoFar}
use Rattle.caller_run.proofs.forking.rooms.Room.+prepare.Given as goal

abbrev pub decreases-prepare : goal.decreases-prepare
decreases-prepare l = length l.script.now.callers - l.caller

abbrev pub invariant-loop-event : goal.invariant-loop-event
invariant-loop-event l = PreparedSoFar l.script.callers l.caller l.rest (fork_tree_of (map layout l.kids.items))

abbrev pub decreases-loop-event : goal.decreases-loop-event
decreases-loop-event l = length l.rest
