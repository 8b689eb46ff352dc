use Rattle.irq_feed.proofs.Moves.{tells_feeds}
use Rattle.irq_feed.proofs.queue.tell_feeds.Goals as goal

pub another-nobody-requires-clause-rule : goal.another-nobody-requires-clause-rule
another-nobody-requires-clause-rule g c = tells_feeds _ _ _ c.requires.worker.1
