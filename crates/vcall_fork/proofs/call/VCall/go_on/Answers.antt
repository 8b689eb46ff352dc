use Rattle.std.proofs.Common.{subst, sym}
use Rattle.vdso_state.specs.Host.{doings}
use Rattle.vdso_state.specs.Places.{CameTo}
use Rattle.vcall_fork.specs.declared.stage.Stage.{Stage}
use Rattle.vcall_fork.specs.Stages.{published_or}
use Rattle.vcall_fork.specs.Stops.{RestOfCall}
use Rattle.vcall_fork.proofs.call.VCall.go_on.Goals as goal

pub returns-in-New-clause-came : goal.returns-in-New-clause-came
returns-in-New-clause-came g c =
    let host = doings g.H.VHost.publishes g.H.VHost.answers g.H.VHost.passes in
    let call = c.args.self.now in
    subst (λ (stage : Stage). CameTo host g.H.VHost.floor
    (RestOfCall stage call.len call.flags c.args.buf.now c.args.st.now) call.len call.flags
    (published_or 0 stage) c.begin.result
    c.args.host.now c.begin.new.host c.begin.new.st c.begin.new.buf) (sym c.in-New.is)
    (rw c.requires.length at c.begin.ensures.came)

pub returns-in-At-clause-came : goal.returns-in-At-clause-came
returns-in-At-clause-came g c =
    let host = doings g.H.VHost.publishes g.H.VHost.answers g.H.VHost.passes in
    let call = c.args.self.now in
    subst (λ (stage : Stage). CameTo host g.H.VHost.floor
    (RestOfCall stage call.len call.flags c.args.buf.now c.args.st.now) call.len call.flags
    (published_or 0 stage) c.resume.result
    c.args.host.now c.resume.new.host c.resume.new.st c.resume.new.buf) (sym c.in-At.is)
    (rw c.requires.length at c.resume.ensures.came)
