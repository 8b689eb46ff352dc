use Rattle.event_script.proofs.Cuts.{some_field}
use Rattle.event_script.proofs.statements.fields.none.Goals as goal

pub returns-in-Some : goal.returns-in-Some
returns-in-Some c = rw c.in-Some.is (some_field c.in-Some.field-0.now)
