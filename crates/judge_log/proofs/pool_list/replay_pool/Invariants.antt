use Rattle.judge_log.specs.Tables.{tables_of}
use Rattle.judge_log.proofs.PoolSteps.{PoolAfter}
use Rattle.judge_log.proofs.pool_list.replay_pool.Given as goal

abbrev pub invariant-loop-one : goal.invariant-loop-one
invariant-loop-one l = PoolAfter (tables_of l.inferred) l.one-index l.lane l.kept.items
