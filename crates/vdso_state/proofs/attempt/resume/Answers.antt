use Rattle.std.proofs.Common.{length, subst, sym}
use Rattle.key_names.specs.declared.point.Point.{Point}
use Rattle.vdso_state.specs.Host.{doings}
use Rattle.vdso_state.specs.Places.{RestOf, FromPoint, CameTo}
use Rattle.vdso_state.proofs.Stepping.{start_came, serve_came}
use Rattle.vdso_state.proofs.attempt.resume.Goals as goal

pub returns-in-Start-clause-came : goal.returns-in-Start-clause-came
returns-in-Start-clause-came g c =
    let host = doings g.H.VHost.publishes g.H.VHost.answers g.H.VHost.passes in
    start_came host g.H.VHost.floor _ _ c.args.place _ _ _ _ _ c.in-Start.is c.after_start.ensures.current
    c.after_start.ensures.other

pub returns-in-Written-clause-came : goal.returns-in-Written-clause-came
returns-in-Written-clause-came g c =
    let host = doings g.H.VHost.publishes g.H.VHost.answers g.H.VHost.passes in
    let n = length c.args.buf.now in
    subst (λ (p : Point). CameTo host g.H.VHost.floor (RestOf c.args.place.turn n c.args.flags
    (FromPoint p n c.args.place.next_block c.args.place.published c.args.buf.now c.args.st.now)) n c.args.flags
    c.args.place.published
    c.after_written.result c.args.host.now c.after_written.new.host c.after_written.new.st c.after_written.new.buf)
    (sym c.in-Written.is) c.after_written.ensures.came

pub returns-in-Serve-clause-came : goal.returns-in-Serve-clause-came
returns-in-Serve-clause-came g c =
    let host = doings g.H.VHost.publishes g.H.VHost.answers g.H.VHost.passes in
    let copied = c.after_serve.ensures in
    serve_came host g.H.VHost.floor _ _ c.args.place _ _ _ _ _ _ c.in-Serve.is copied.bytes copied.state copied.place

pub returns-in-End-clause-came : goal.returns-in-End-clause-came
returns-in-End-clause-came g c =
    let host = doings g.H.VHost.publishes g.H.VHost.answers g.H.VHost.passes in
    let n = length c.args.buf.now in
    subst (λ (p : Point). CameTo host g.H.VHost.floor (RestOf c.args.place.turn n c.args.flags
    (FromPoint p n c.args.place.next_block c.args.place.published c.args.buf.now c.args.st.now)) n c.args.flags
    c.args.place.published
    c.after_end.result c.args.host.now c.after_end.new.host c.after_end.new.st c.after_end.new.buf)
    (sym c.in-End.is) c.after_end.ensures.came
