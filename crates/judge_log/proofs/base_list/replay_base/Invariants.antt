use Rattle.judge_log.specs.Closed.{closed}
use Rattle.judge_log.specs.Tables.{tables_of}
use Rattle.judge_log.proofs.BaseSteps.{BaseAfter}
use Rattle.judge_log.proofs.base_list.replay_base.Given as goal

abbrev pub invariant-loop-place : goal.invariant-loop-place
invariant-loop-place l = BaseAfter (closed (tables_of l.inferred)) l.place l.base l.least l.kept.items
