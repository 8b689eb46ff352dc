use Rattle.irq_feed.proofs.Moves.{pops}
use Rattle.irq_feed.proofs.queue.FeedQueue.try_pop.Goals as goal

pub try_pop_as-requires-clause-rule : goal.try_pop_as-requires-clause-rule
try_pop_as-requires-clause-rule c = pops _ _ c.requires.worker.1
