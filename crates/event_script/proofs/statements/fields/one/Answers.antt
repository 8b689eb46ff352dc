use Rattle.event_script.proofs.Cuts.{more_than_one}
use Rattle.event_script.proofs.statements.fields.one.Goals as goal

pub returns-in-Some-cut : goal.returns-in-Some-cut
returns-in-Some-cut c =
    rw (c.in-Some.is, c.in-Some-cut.ensures.parts)
    (more_than_one c.in-Some-cut.field-0.0.now c.in-Some-cut.field-0.1.now)
