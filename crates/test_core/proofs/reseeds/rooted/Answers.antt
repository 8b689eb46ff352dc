use Rattle.lane_table.proofs.Calls.Lent.{lent}
use Rattle.test_core.proofs.reseeds.rooted.Goals as goal

pub put_pool-extracted-requires-clause-makes : goal.put_pool-extracted-requires-clause-makes
put_pool-extracted-requires-clause-makes g c =
    c.extract-root.ensures.made _ c.args.base.now.turn.place
    (lent _ _ _ _ c.state_mut.ensures.value c.take-pool.ensures.taken.conforms.value)
