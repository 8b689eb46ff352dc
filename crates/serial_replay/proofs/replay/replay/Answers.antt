use Rattle.std.proofs.Common.{◌≡◌}
use Rattle.serial_replay.specs.declared.replay.Replayed.TheVariants.{Made, No}
use Rattle.serial_replay.specs.Replayed.{IsReplay}
use Rattle.serial_replay.proofs.BareMade.{if_ok}
use Rattle.serial_replay.proofs.OneReplay.{made_of, no_of}
use Rattle.serial_replay.proofs.replay.replay.Goals as goal

pub returns-clause-made : goal.returns-clause-made
returns-clause-made c = λ t same is.
    if_ok (IsReplay c.args.script.now c.args.steps.now) (λ r. r ≡ Made t)
    (λ r j. made_of c.args.script.now c.args.steps.now r t j same is) c.replay_steps.result c.replay_steps.ensures

pub returns-clause-stops : goal.returns-clause-stops
returns-clause-stops c = λ clause fails.
    if_ok (IsReplay c.args.script.now c.args.steps.now) (λ r. r ≡ No clause)
    (λ r j. no_of c.args.script.now c.args.steps.now r clause j fails) c.replay_steps.result c.replay_steps.ensures
