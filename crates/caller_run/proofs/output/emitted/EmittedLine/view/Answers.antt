use Rattle.std.proofs.Common.{rules, sym, subst}
use Rattle.key_names.specs.Texts.TranscriptGrammar.{LineFits}
use Rattle.caller_run.proofs.Events.BytesFit.{shown_fits}
use Rattle.caller_run.proofs.output.emitted.EmittedLine.view.Goals as goal

pub returns-clause-line : goal.returns-clause-line
returns-clause-line c = search rules

pub returns-clause-fits : goal.returns-clause-fits
returns-clause-fits c =
    subst LineFits (sym (returns-clause-line c)) (record {
      caller = search rules;
      event = search rules;
      few_steps = c.requires.few;
      steps = c.requires.steps;
      shown = shown_fits c.args.self.word c.args.served.now c.args.self.said.shows c.requires.shows c.type_inv.served
          (search rules);
    })
