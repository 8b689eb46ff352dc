use Rattle.judge_log.specs.Tables.{tables_of}
use Rattle.judge_log.proofs.Tables.TellSteps.{acts_more, acts_end}
use Rattle.judge_log.proofs.gather.tell_acts.Goals as goal

pub loop-bound-preserved : goal.loop-bound-preserved
loop-bound-preserved c = λ final rest. c.loop-bound.invariant final
    (acts_more c.args.set.now c.args.acts.now c.loop-bound.bound-index c.bound-item.result (tables_of c.loop-bound.inferred)
    (tables_of c.tell_line.new.inferred) final c.loop-bound-test.true c.bound-item.is c.tell_line.ensures rest)

pub returns : goal.returns
returns c = c.loop-bound.invariant (tables_of c.loop-bound.inferred)
    (acts_end c.args.set.now c.args.acts.now c.loop-bound.bound-index (tables_of c.loop-bound.inferred)
    c.loop-bound-test.false)
