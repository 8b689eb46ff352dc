use Rattle.lane_table.specs.Calls.{view}
use Rattle.lane_table.proofs.Calls.HandLemmas.{has_child, has_halved}
use Rattle.test_core.proofs.passes.split_off.Goals as goal

pub returns-clause-has : goal.returns-clause-has
returns-clause-has c = has_halved _ 0 c.args.pass.now c.split.new.pass c.requires c.split.ensures.pass
    c.split.ensures.halved

pub returns-clause-child : goal.returns-clause-child
returns-clause-child c = has_child c.args.lanes.now c.args.caller (view c.args.pass.now) c.split.result
    c.split.ensures.child.0 c.split.ensures.child.1 c.split.ensures.seat
