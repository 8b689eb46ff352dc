use Rattle.std.proofs.Common.{◌++◌, ℕ, List, length, ap, arith, ◌∙◌, sym, append-nil}
use Rattle.std.proofs.lemmas.List.{length_push, at_drop_more, at_drop_all}
use Rattle.key_names.specs.declared.names.Step.{Step}
use Rattle.transcript_text.proofs.StepLists.{steps_after, some_steps, no_steps, next_step}
use Rattle.transcript_text.proofs.parsing.head.append_steps.Goals as goal

pub returns-then-is_empty-clause-text : goal.returns-then-is_empty-clause-text
returns-then-is_empty-clause-text c =
    no_steps c.args.piece.now c.append.new.self c.args.steps.now c.if-is_empty.ensures c.append.ensures

pub loop-step-init : goal.loop-step-init
loop-step-init c = record {
  text = ap (λ (x : List ℕ). c.args.piece.now ++ x) (some_steps 32 c.args.steps.now c.if-is_empty.ensures);
  short = omega arith;
}

pub loop-step-preserved : goal.loop-step-preserved
loop-step-preserved c = let l = c.loop-step in
    record {
      text = next_step l.before l.piece c.push.new.self c.append_step.new.piece _ _ c.push.ensures
          c.append_step.ensures.text
          ∙ sym (at_drop_more (λ (ss : List Step). l.piece ++ steps_after l.before ss) c.args.steps.now l.step-index _
          c.loop-step-test.true)
          ∙ l.invariant.text;
      short = omega (arith, length_push l.piece l.before, ap length c.push.ensures);
    }

pub returns-clause-text : goal.returns-clause-text
unfolding steps_after
returns-clause-text c = let l = c.loop-step in
    sym (append-nil l.piece) ∙ sym (at_drop_all (λ (ss : List Step). l.piece ++ steps_after l.before ss) c.args.steps.now
    l.step-index c.loop-step-test.false)
    ∙ l.invariant.text
