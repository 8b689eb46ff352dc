use Rattle.irq_feed.proofs.Moves.{begins}
use Rattle.irq_feed.proofs.queue.FeedQueue.of.Goals as goal

pub ruled-requires-clause-rule : goal.ruled-requires-clause-rule
ruled-requires-clause-rule c = begins
