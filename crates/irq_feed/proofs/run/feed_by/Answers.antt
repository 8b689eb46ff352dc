use Rattle.std.proofs.Common.{ap}
use Rattle.irq_feed.specs.Passes.{next_of}
use Rattle.irq_feed.proofs.Feeding.{first_start, all_mixed}
use Rattle.irq_feed.proofs.Mixings.{puts}
use Rattle.irq_feed.proofs.run.feed_by.Goals as goal

pub drain_feeders-worker-requires-clause-start : goal.drain_feeders-worker-requires-clause-start
drain_feeders-worker-requires-clause-start g c κs within =
    first_start _ _ c.args.worker c.in-Ok.mixed c.requires.new c.in-Ok.ensures.none
    c.in-Ok.ensures.room c.in-Ok.ensures.few

pub returns-clause-all : goal.returns-clause-all
returns-clause-all g c =
    all_mixed _ _ c.drain_feeders-worker.result.worker _ _ c.drain_feeders-worker.ensures.drained c.mix_rest.ensures.all

pub returns-clause-entries : goal.returns-clause-entries
returns-clause-entries g c = puts _ 0 _ _ _ (c.mix_rest.ensures.irqs _ c.drain_feeders-worker.ensures.irqs)

pub returns-clause-worker : goal.returns-clause-worker
returns-clause-worker g c =
    let drained = c.drain_feeders-worker.ensures.drained in (drained.of_queue, ap next_of drained.knows)
