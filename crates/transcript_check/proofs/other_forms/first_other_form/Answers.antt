use Rattle.judge_lines.specs.Seen.{seen_callers}
use Rattle.serial_replay.proofs.RemadeLines.{forks_rise, in_range}
use Rattle.transcript_check.proofs.other_forms.first_other_form.Goals as goal

pub all_settings-requires-clause-rise : goal.all_settings-requires-clause-rise
all_settings-requires-clause-rise c =
    let conform = rw c.in-Conforms.is at c.in_ok-parts.ensures in
    rw c.deref-2.ensures.value
    (forks_rise c.args.script.now (seen_callers c.args.lines.now) c.in-Conforms.parts conform c.requires)

pub first_of_all-requires : goal.first_of_all-requires
first_of_all-requires c =
    let conform = rw c.in-Conforms.is at c.in_ok-parts.ensures in
    rw c.deref-in-Some-2.ensures.value
    (in_range c.args.script.now (seen_callers c.args.lines.now) c.in-Conforms.parts conform c.requires)
