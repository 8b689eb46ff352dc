use Rattle.irq_feed.proofs.Moves.{pushes}
use Rattle.irq_feed.proofs.queue.FeedQueue.try_push.Goals as goal

pub try_push_as-requires-clause-rule : goal.try_push_as-requires-clause-rule
try_push_as-requires-clause-rule c = pushes _ _ _ _ c.requires.next
