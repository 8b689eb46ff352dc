use Rattle.irq_feed.proofs.Moves.{joins}
use Rattle.irq_feed.proofs.queue.FeedQueue.take_in.Goals as goal

pub absorb-requires-clause-rule : goal.absorb-requires-clause-rule
absorb-requires-clause-rule c = joins _ _ _ _ c.requires.worker.1 c.requires.feeder.1
