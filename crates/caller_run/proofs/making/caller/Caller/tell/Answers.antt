use Rattle.std.proofs.Common.{rules, subst, sym}
use Rattle.std.specs.List.{AllByRecursion}
use Rattle.key_names.specs.Texts.TranscriptGrammar.{LineFits, StepFits}
use Rattle.caller_run.specs.Says.{ShowsFit}
use Rattle.caller_run.proofs.Events.BytesFit.{bytes_fit}
use Rattle.caller_run.proofs.making.caller.Caller.tell.Goals as goal

pub push-requires-clause-fits : goal.push-requires-clause-fits
push-requires-clause-fits c = subst LineFits (sym c.line.ensures.line) (record {
  caller = search rules;
  event = search rules;
  few_steps = c.steps-steps.ensures.few;
  steps = subst (AllByRecursion StepFits) (sym c.steps-steps.ensures.steps) c.requires.steps;
  shown = tt;
})

pub push-requires-in-Count-clause-fits : goal.push-requires-in-Count-clause-fits
push-requires-in-Count-clause-fits c = subst LineFits (sym c.line-in-Count.ensures.line) (record {
  caller = search rules;
  event = search rules;
  few_steps = c.steps-steps.ensures.few;
  steps = subst (AllByRecursion StepFits) (sym c.steps-steps.ensures.steps) c.requires.steps;
  shown = (subst (ShowsFit c.args.word) c.in-Count.is c.requires.shows, search rules);
})

pub push-requires-in-Served-clause-fits : goal.push-requires-in-Served-clause-fits
push-requires-in-Served-clause-fits c = subst LineFits (sym c.line-in-Served.ensures.line) (record {
  caller = search rules;
  event = search rules;
  few_steps = c.steps-steps.ensures.few;
  steps = subst (AllByRecursion StepFits) (sym c.steps-steps.ensures.steps) c.requires.steps;
  shown = bytes_fit c.args.word c.args.served.now (subst (ShowsFit c.args.word) c.in-Served.is c.requires.shows)
      c.type_inv.served;
})
