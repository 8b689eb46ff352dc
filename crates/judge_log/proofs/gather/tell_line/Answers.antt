use Rattle.judge_log.specs.Tables.{tables_of}
use Rattle.judge_log.specs.Spots.{tells_by}
use Rattle.judge_log.proofs.Tables.TellSteps.{line_more, line_end}
use Rattle.judge_log.proofs.gather.tell_line.Goals as goal

pub loop-number-preserved : goal.loop-number-preserved
loop-number-preserved c = λ final rest. c.loop-number.invariant final
    (line_more c.args.set.now (tells_by c.args.set.now c.args.line_kind) c.sign_at-first.result c.loop-number.second_before
    c.loop-number.before c.sign_at.result c.sign-before.result c.args.steps.now c.loop-number.number _
    (tables_of c.loop-number.inferred) (tables_of c.put_row.new.inferred) final c.loop-number-test.true c.sign_at.ensures
    c.sign-before.ensures c.put_row.ensures rest)

pub returns : goal.returns
returns c = c.loop-number.invariant (tables_of c.loop-number.inferred)
    (line_end c.args.set.now (tells_by c.args.set.now c.args.line_kind) c.sign_at-first.result c.loop-number.second_before
    c.loop-number.before c.args.steps.now c.loop-number.number (tables_of c.loop-number.inferred) c.loop-number-test.false)
