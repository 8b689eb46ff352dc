use Rattle.caller_run.specs.declared.forking.rooms.Room.{fold_out-Room}
use Rattle.caller_run.specs.Layouts.{layout, layout_step}
use Rattle.caller_run.specs.ForkTree.{Layout}
use Rattle.caller_run.proofs.forking.rooms.Room.open.Goals as goal

pub returns : goal.returns
unfolding layout
returns c = fold_out-Room Layout layout_step c.args.self
