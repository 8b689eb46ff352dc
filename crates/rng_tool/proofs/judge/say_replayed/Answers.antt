use Rattle.std.proofs.Common.{ap, subst, ◌∙◌}
use Rattle.key_names.specs.Texts.TranscriptGrammar.{TranscriptFits}
use Rattle.tool_ends.specs.declared.status.Status.TheVariants.{Done, No}
use Rattle.judge_lines.specs.Clauses.{clause_of}
use Rattle.tool_ends.specs.Pairs.{no_line}
use Rattle.tool_ends.proofs.Inputs.{the_answer, wider}
use Rattle.rng_tool.specs.JudgeOutcome.{SaidOf}
use Rattle.rng_tool.specs.declared.judge.Judge.TheVariants.{Replay}
use Rattle.rng_tool.proofs.Judging.{gives_back}
use Rattle.rng_tool.proofs.judge.say_replayed.Goals as goal

pub returns-in-Ok-clause-ends : goal.returns-in-Ok-clause-ends
returns-in-Ok-clause-ends g c =
    let is = rw c.in-Ok-Made.field-0-is at c.in-Ok-Made.ensures.replay in
    let fits = subst TranscriptFits c.made.view_is c.made.invariant in
    (_, gives_back c.args.script.now c.args.t.now c.in-Ok-Made.made fits is, c.in-Ok.ensures.whole)

pub returns-in-Ok-Made-clause-ends : goal.returns-in-Ok-Made-clause-ends
returns-in-Ok-Made-clause-ends g c =
    let is = rw c.in-Ok-Made.field-0-is at c.in-Ok-Made.ensures.replay in
    let fits = subst TranscriptFits c.made.view_is c.made.invariant in (
      _,
      (Done, tt, gives_back c.args.script.now c.args.t.now c.in-Ok-Made.made fits is),
      c.in-Err-write_all.ensures.prefix,
    )

pub returns-in-Ok-No-clause-ends : goal.returns-in-Ok-No-clause-ends
returns-in-Ok-No-clause-ends g c =
    let fails = rw c.in-Ok-No.field-0-is at c.in-Ok-No.ensures.replay in
    let Of = SaidOf Replay c.args.script.now c.args.t.now in
    wider _ Of (the_answer Of No c.no_line.result.bytes
    (clause_of c.in-Ok-No.clause, fails, c.no_line.ensures ∙ ap no_line c.number.ensures)) _ _ _ c.put_line.ensures.ends
