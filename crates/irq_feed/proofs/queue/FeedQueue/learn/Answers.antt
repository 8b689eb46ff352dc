use Rattle.irq_feed.proofs.Moves.{learns}
use Rattle.irq_feed.proofs.queue.FeedQueue.learn.Goals as goal

pub learn_as-requires-clause-rule : goal.learn_as-requires-clause-rule
learn_as-requires-clause-rule c = learns _ _ c.requires.worker.1
