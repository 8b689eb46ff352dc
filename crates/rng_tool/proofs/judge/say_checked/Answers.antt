use Rattle.std.proofs.Common.{ap, ◌∙◌}
use Rattle.judge_lines.specs.Clauses.{clause_of}
use Rattle.rng_tool.specs.JudgeOutcome.{SaidOf}
use Rattle.tool_ends.specs.Pairs.{no_line}
use Rattle.rng_tool.specs.declared.judge.Judge.TheVariants.{Check}
use Rattle.tool_ends.specs.declared.status.Status.TheVariants.{No}
use Rattle.tool_ends.proofs.Inputs.{the_answer, wider}
use Rattle.rng_tool.proofs.judge.say_checked.Goals as goal

pub returns-in-Ok-No-clause-ends : goal.returns-in-Ok-No-clause-ends
returns-in-Ok-No-clause-ends g c =
    let fails = rw c.in-Ok-No.field-0-is at c.in-Ok-No.ensures.judged in
    let Of = SaidOf Check c.args.script.now c.args.t.now in
    wider _ Of (the_answer Of No c.no_line.result.bytes
    (clause_of c.in-Ok-No.clause, fails, c.no_line.ensures ∙ ap no_line c.number.ensures)) _ _ _ c.put_line-in-Ok-No.ensures.ends
