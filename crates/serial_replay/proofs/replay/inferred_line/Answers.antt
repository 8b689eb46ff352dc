use Rattle.std.proofs.Common.{sym, subst}
use Rattle.serial_replay.specs.Written.{IsFor}
use Rattle.serial_replay.proofs.replay.inferred_line.Goals as goal

pub returns-clause-fits : goal.returns-clause-fits
returns-clause-fits c = record {
  caller = c.requires.fits.caller;
  event = c.requires.fits.event;
  few_steps = c.requires.fits.few_steps;
  steps = c.requires.fits.steps;
  shown = c.shown_as-shown.ensures.fits c.args.line.word
      (subst (IsFor c.args.line.word) (sym c.shown_as-shown.ensures.shown) c.requires.kind);
}
