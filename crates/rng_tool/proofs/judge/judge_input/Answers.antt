use Rattle.std.proofs.Common.{arith, length}
use Rattle.std.proofs.lemmas.List.{length-drop}
use Rattle.key_names.specs.Texts.ScriptFaults.{front}
use Rattle.tool_ends.specs.Pairs.{IsNoPair, following}
use Rattle.tool_ends.proofs.Refusing.{refused_of, said_of}
use Rattle.rng_tool.specs.JudgeOutcome.{JudgeCalls}
use Rattle.rng_tool.proofs.Inputs.{judge_is_limited}
use Rattle.rng_tool.proofs.Judging.{none_said}
use Rattle.rng_tool.proofs.judge.judge_input.Goals as goal

pub say_of_text-requires-clause-short : goal.say_of_text-requires-clause-short
say_of_text-requires-clause-short g c =
    let given = c.in-Ok.ensures.read in (
      following given.0,
      given.2.holds,
      omega (arith, length-drop (length (front given.0)) given.0, given.2.short),
    )

pub returns-in-Ok-clause-ends : goal.returns-in-Ok-clause-ends
returns-in-Ok-clause-ends g c =
    let judge = c.args.judge in
    let given = c.in-Ok.ensures.read in
    said_of 100663296 (JudgeCalls judge) (judge_is_limited judge) _ _ _ _ given.0 given.1 c.say_of_text.result
    (c.say_of_text.ensures.ends given.0 given.2)

pub returns-in-Err-clause-ends : goal.returns-in-Err-clause-ends
returns-in-Err-clause-ends g c =
    let judge = c.args.judge in
    refused_of 100663296 (JudgeCalls judge) (judge_is_limited judge) _ _ _ _ IsNoPair c.in-Err.why
    (λ input none. none_said judge input c.in-Err.why none) c.in-Err.ensures.not_read c.put_refusal.result
    c.put_refusal.ensures.ends
