use Rattle.key_names.proofs.Script.EventReaders.{event_takes}
use Rattle.event_script.specs.Views.{fields_of}
use Rattle.event_script.proofs.statements.line.said_by_word.Goals as goal

pub returns-in_ok-event-in_default-clause-range : goal.returns-in_ok-event-in_default-clause-range
returns-in_ok-event-in_default-clause-range c =
    (event_takes c.args.head.version c.args.head.cpus c.args.word c.args.head.few (fields_of c.args.rest)
    c.in_ok-event-in_default.event c.in_ok-event-in_default.ensures).range
