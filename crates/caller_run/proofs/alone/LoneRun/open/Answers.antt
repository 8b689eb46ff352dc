use Rattle.std.proofs.Common.{[]}
use Rattle.std.proofs.lemmas.Result.{IfOk-weaker}
use Rattle.caller_run.specs.Alone.{HasMade, HasRoom}
use Rattle.caller_run.proofs.Forks.Alone.{made_nothing}
use Rattle.caller_run.proofs.alone.LoneRun.open.Goals as goal

pub returns : goal.returns
returns c =
    IfOk-weaker c.with_room.result (λ run. HasRoom c.args.cpus 1048576 run) (λ run. HasMade c.args.cpus [] run [])
    made_nothing c.with_room.ensures
