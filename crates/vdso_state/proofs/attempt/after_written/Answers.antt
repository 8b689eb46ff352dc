use Rattle.vdso_state.specs.Host.{doings}
use Rattle.vdso_state.proofs.Stepping.{key_came, key_failed}
use Rattle.vdso_state.proofs.attempt.after_written.Goals as goal

pub returns-in-Ok-clause-came : goal.returns-in-Ok-clause-came
returns-in-Ok-clause-came g c =
    let host = doings g.H.VHost.publishes g.H.VHost.answers g.H.VHost.passes in
    let reads = c.in-Ok.ensures.reads in
    key_came host g.H.VHost.floor _ _ c.args.place _ _ _ _ _ _ reads.0 c.at.ensures reads.1 reads.2
    c.in-Ok.ensures.floor

pub returns-in-Err-clause-came : goal.returns-in-Err-clause-came
returns-in-Err-clause-came g c =
    let host = doings g.H.VHost.publishes g.H.VHost.answers g.H.VHost.passes in
    let reads = c.in-Err.ensures.reads in
    key_failed host g.H.VHost.floor _ _ _ c.args.place.published _ _ _ _ _ _ reads.0 c.in-Err.field-0 _ _ _ reads.1
    reads.2 c.in-Err.ensures.floor c.give_up.ensures
