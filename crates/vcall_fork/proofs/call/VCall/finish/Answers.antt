use Rattle.std.proofs.Common.{subst, sym}
use Rattle.vdso_state.specs.Host.{doings}
use Rattle.vdso_state.specs.Places.{Ends}
use Rattle.vcall_fork.specs.declared.stage.Stage.{Stage}
use Rattle.vcall_fork.specs.Stops.{RestOfCall}
use Rattle.vcall_fork.proofs.call.VCall.finish.Goals as goal

pub returns-in-New : goal.returns-in-New
returns-in-New g c =
    let host = doings g.H.VHost.publishes g.H.VHost.answers g.H.VHost.passes in
    let call = c.args.self in
    subst (λ (stage : Stage). Ends host g.H.VHost.floor
    (RestOfCall stage call.len call.flags c.args.buf.now c.args.st.now) c.args.host.now c.vgetrandom.new.host
    (record { state = c.vgetrandom.new.st; result = c.vgetrandom.result; buf = c.vgetrandom.new.buf }))
    (sym c.in-New.is) (rw c.requires.length at c.vgetrandom.ensures)

pub returns-in-At : goal.returns-in-At
returns-in-At g c =
    let host = doings g.H.VHost.publishes g.H.VHost.answers g.H.VHost.passes in
    let call = c.args.self in
    subst (λ (stage : Stage). Ends host g.H.VHost.floor
    (RestOfCall stage call.len call.flags c.args.buf.now c.args.st.now) c.args.host.now c.finish.new.host
    (record { state = c.finish.new.st; result = c.finish.result; buf = c.finish.new.buf }))
    (sym c.in-At.is) (rw c.requires.length at c.finish.ensures)
