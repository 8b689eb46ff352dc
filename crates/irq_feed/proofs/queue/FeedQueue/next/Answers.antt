use Rattle.irq_feed.proofs.Moves.{splits}
use Rattle.irq_feed.proofs.queue.FeedQueue.next.Goals as goal

pub another-requires-clause-rule : goal.another-requires-clause-rule
another-requires-clause-rule c = splits _ _ c.requires.worker.1
