use Rattle.std.proofs.Common.{sym, subst}
use Rattle.std.proofs.Common.{◌+◌}
use Rattle.lane_table.specs.Calls.{AreStarts}
use Rattle.lane_table.proofs.Rule.Starting.{starts_push}
use Rattle.lane_table.proofs.passes.start_contents.Goals as goal

pub loop-lane-preserved : goal.loop-lane-preserved
loop-lane-preserved c = subst (AreStarts c.args.first (c.loop-lane.lane + 1)) (sym c.in_ok-push.ensures.items)
    (rw c.of.ensures (starts_push c.args.first c.loop-lane.lane c.loop-lane.slots.items _ c.loop-lane.invariant
    c.in_ok-content.ensures))
