use Rattle.vdso_state.specs.Host.{doings}
use Rattle.vdso_state.proofs.Stepping.{system_read, system_failed}
use Rattle.vdso_state.proofs.attempt.ask_system.Goals as goal

pub returns-in-Ok : goal.returns-in-Ok
returns-in-Ok g c =
    let host = doings g.H.VHost.publishes g.H.VHost.answers g.H.VHost.passes in
    let answers = c.in-Ok.ensures.answers in
    system_read host g.H.VHost.floor _ _ _ _ _ answers.0 _ answers.1 answers.2 c.in-Ok.ensures.floor

pub returns-in-Err : goal.returns-in-Err
returns-in-Err g c =
    let host = doings g.H.VHost.publishes g.H.VHost.answers g.H.VHost.passes in
    let answers = c.in-Err.ensures.answers in
    system_failed host g.H.VHost.floor _ _ _ _ _ answers.0 _ _ answers.1 answers.2 c.in-Err.ensures.floor
