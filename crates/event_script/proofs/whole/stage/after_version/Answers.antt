use Rattle.event_script.proofs.Stages.{version_fails, version_read}
use Rattle.event_script.proofs.whole.stage.after_version.Goals as goal

pub returns-in-Ok : goal.returns-in-Ok
returns-in-Ok c = (
  version_read c.args.text.now c.requires.whole c.requires.some c.in-Ok.rest.now c.in-Ok.ensures.rest
      c.in-Ok.ensures.shorter c.in-Ok.version c.in-Ok.ensures.version,
  c.in-Ok.ensures.shorter,
)

pub returns-in-Err : goal.returns-in-Err
returns-in-Err c =
    rw c.fault.ensures
    (version_fails c.args.text.now c.requires.whole c.requires.some c.in-Err.kind c.in-Err.ensures.version)
