use Rattle.std.proofs.Common.{subst, sym}
use Rattle.tool_ends.specs.Pairs.{IsNoText, following}
use Rattle.tool_ends.specs.declared.status.Status.TheVariants.{Done}
use Rattle.tool_ends.proofs.Inputs.{the_answer, wider}
use Rattle.tool_ends.proofs.Pairs.{no_pair}
use Rattle.rng_tool.specs.JudgeOutcome.{JudgeCalls}
use Rattle.rng_tool.proofs.Judging.{pair_said, refusal_said, run_said}
use Rattle.rng_tool.proofs.judge.say_of_text.Goals as goal

pub returns-then-is_whole-clause-ends : goal.returns-then-is_whole-clause-ends
returns-then-is_whole-clause-ends g c = λ input apart.
    let Of = JudgeCalls c.args.judge input in
    let yes = run_said c.args.judge input c.args.script.now c.args.following apart c.requires.run
    (c.is_whole.ensures.0 c.if-is_whole.true) in
    wider _ Of (the_answer Of Done c.yes_line.result.bytes (subst (Of Done) (sym c.yes_line.ensures) yes)) _ _ _
    c.put_line.ensures.ends

pub returns-in-Ok-clause-ends : goal.returns-in-Ok-clause-ends
returns-in-Ok-clause-ends g c = λ input apart.
    wider _ (JudgeCalls c.args.judge input) (pair_said c.args.judge input c.args.script.now _ (record {
      short = apart.short;
      is_script = apart.is_script;
      text = c.in-Ok.ensures.read (following input) apart.holds;
    })) _ _ _ c.say.ensures.ends

pub returns-in-Err-clause-ends : goal.returns-in-Err-clause-ends
returns-in-Err-clause-ends g c = λ input apart.
    refusal_said c.args.judge input c.in-Err.why (no_pair input c.args.script.now apart.short apart.is_script
    c.in-Err.why (c.in-Err.ensures.not_read (following input) apart.holds)) _ _ _
    c.put_refusal.ensures.ends

pub returns-in-Err-clause-was_read : goal.returns-in-Err-clause-was_read
returns-in-Err-clause-was_read g c = λ fault.
    let text = c.requires.short.0 in
    subst (IsNoText text) (c.put_refusal.ensures.unread fault)
    (c.in-Err.ensures.not_read text c.requires.short.1)
