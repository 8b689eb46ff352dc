use Rattle.std.proofs.Common.{arith}
use Rattle.irq_feed.proofs.Feeding.{fits_now}
use Rattle.irq_feed.proofs.run.mix_rest.Goals as goal

pub mix_if_direct-requires-clause-room : goal.mix_if_direct-requires-clause-room
mix_if_direct-requires-clause-room g c κs within = λ direct.
    fits_now c.args.intake.now.feeds.now _ _ _ c.loop-number.invariant.front (let e = c.feeders-number-end.ensures.feeders in omega arith)
    direct
