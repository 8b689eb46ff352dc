use Rattle.lane_table.specs.Calls.{AreStarts}
use Rattle.lane_table.proofs.passes.start_contents.Given as goal

abbrev pub invariant-loop-lane : goal.invariant-loop-lane
invariant-loop-lane l = AreStarts l.first l.lane l.slots.items
