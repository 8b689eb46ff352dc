use Rattle.event_script.proofs.Stages.{start_fails, start_read}
use Rattle.event_script.proofs.whole.stage.after_start.Goals as goal

pub returns-in-Ok : goal.returns-in-Ok
returns-in-Ok c = (
  start_read c.args.text.now c.requires.whole c.requires.some c.in-Ok.rest.now c.in-Ok.ensures.rest
      c.in-Ok.ensures.shorter c.args.head c.in-Ok.draft c.in-Ok.ensures.start,
  c.in-Ok.ensures.shorter,
)

pub returns-in-Err : goal.returns-in-Err
returns-in-Err c =
    rw c.at_line.ensures
    (start_fails c.args.text.now c.requires.whole c.requires.some c.args.head c.in-Err.error c.in-Err.ensures.start)
