use Rattle.irq_feed.specs.Passes.{IsFeeder}
use Rattle.irq_feed.proofs.feeder.push_all.Given as goal

abbrev pub invariant-loop-index : goal.invariant-loop-index
invariant-loop-index g l = IsFeeder l.feeder.queue.now l.feeder.feeds.now l.feeder.number l.index l.pass
