use Rattle.caller_run.specs.declared.forking.rooms.Room.{fold-roll-Room}
use Rattle.caller_run.specs.Layouts.{layout, layout_step}
use Rattle.caller_run.specs.ForkTree.{Layout}
use Rattle.caller_run.proofs.forking.rooms.Room.with.Goals as goal

pub returns : goal.returns
unfolding layout
returns c = fold-roll-Room Layout layout_step _
