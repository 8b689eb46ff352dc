use Rattle.event_script.proofs.Cuts.{more_than_two}
use Rattle.event_script.proofs.statements.fields.two.Goals as goal

pub returns-in-Some-cut-2 : goal.returns-in-Some-cut-2
returns-in-Some-cut-2 c =
    rw (c.in-Some.is, c.in-Some-cut.ensures.parts, c.in-Some-cut-2.ensures.parts)
    (more_than_two c.in-Some-cut.first.now c.in-Some-cut-2.field-0.0.now c.in-Some-cut-2.field-0.1.now)
