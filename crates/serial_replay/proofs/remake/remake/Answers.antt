use Rattle.std.proofs.Common.{map}
use Rattle.key_names.specs.Transcripts.SameSteps.{bare}
use Rattle.serial_replay.specs.Remade.{IsRemade}
use Rattle.serial_replay.proofs.BareMade.{remade_of_bare, steps_fit, if_ok}
use Rattle.serial_replay.proofs.remake.remake.Goals as goal

pub of_lines-requires-clause-fit : goal.of_lines-requires-clause-fit
of_lines-requires-clause-fit g c =
    rw (c.deref.ensures.value, c.in_ok-lines.ensures) (steps_fit c.args.t.now c.callers-callers.ensures.fits.lines)

pub returns-clause-made : goal.returns-clause-made
returns-clause-made g c =
    if_ok (IsRemade (g.N.Note.IsNoted c.args.how.now) c.args.script.now (map (map bare) c.args.t.now)) (IsRemade (g.N.Note.IsNoted c.args.how.now) c.args.script.now c.args.t.now)
    (remade_of_bare c.args.script.now c.args.t.now (g.N.Note.IsNoted c.args.how.now)) c.of_lines.result
    (rw (c.deref.ensures.value, c.in_ok-lines.ensures) at c.of_lines.ensures.made)
