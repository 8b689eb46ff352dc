use Rattle.std.proofs.Common.{◌-◌}
use Rattle.irq_feed.proofs.run.+start_rest.Given as goal

abbrev pub decreases-start_rest : goal.decreases-start_rest
decreases-start_rest g l = l.call.now.intake.now.feeds.now.feeders - l.number
