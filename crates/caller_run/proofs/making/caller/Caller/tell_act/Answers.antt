use Rattle.std.proofs.Common.{rules, subst, sym}
use Rattle.std.specs.List.{AllByRecursion}
use Rattle.key_names.specs.Texts.TranscriptGrammar.{StepFits}
use Rattle.caller_run.proofs.Events.BytesFit.{bytes_fit}
use Rattle.caller_run.proofs.making.caller.Caller.tell_act.Goals as goal

pub replace-requires-clause-fits : goal.replace-requires-clause-fits
replace-requires-clause-fits c = record {
  caller = search rules;
  event = search rules;
  few_steps = c.steps.ensures.few;
  steps = subst (AllByRecursion StepFits) (sym c.steps.ensures.steps) c.requires.steps;
  shown = bytes_fit _ c.bytes.result.now (λ same. cc) (search rules);
}
