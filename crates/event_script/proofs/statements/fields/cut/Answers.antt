use Rattle.event_script.proofs.Cuts.{at_place, nowhere, rest_of}
use Rattle.event_script.proofs.statements.fields.cut.Goals as goal

pub returns-in-Some-clause-parts : goal.returns-in-Some-clause-parts
returns-in-Some-clause-parts c = rw rest_of (at_place c.args.byte c.in-Some.place c.args.text.now c.in-Some.ensures)

pub returns-in-None-clause-parts : goal.returns-in-None-clause-parts
returns-in-None-clause-parts c = nowhere c.args.byte c.args.text.now c.in-None.ensures
