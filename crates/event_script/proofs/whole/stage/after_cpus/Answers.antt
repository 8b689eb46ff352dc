use Rattle.event_script.proofs.Stages.{cpus_fails, cpus_read}
use Rattle.event_script.proofs.whole.stage.after_cpus.Goals as goal

pub returns-in-Ok : goal.returns-in-Ok
returns-in-Ok c = (
  cpus_read c.args.text.now c.requires.whole c.requires.some c.in-Ok.rest.now c.in-Ok.ensures.rest
      c.in-Ok.ensures.shorter _ c.in-Ok.ensures.cpus,
  c.in-Ok.ensures.shorter,
)

pub returns-in-Err : goal.returns-in-Err
returns-in-Err c =
    rw c.fault.ensures (cpus_fails c.args.text.now c.requires.whole c.requires.some c.args.version c.in-Err.kind
    c.in-Err.ensures.cpus)
