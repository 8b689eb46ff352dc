use Rattle.std.proofs.Common.{◌≡◌, ℕ, length, subst, arith}
use Rattle.vdso_state.specs.Host.{doings}
use Rattle.vdso_state.specs.Places.{AfterPlace, AtPlace, Leads, Ends}
use Rattle.vdso_state.proofs.Leading.{stays, then_leads, then_ends, at_leads, still_may}
use Rattle.vdso_state.proofs.call.finish.Goals as goal

pub loop-result-init : goal.loop-result-init
loop-result-init g c = record {
  leads = stays (doings g.H.VHost.publishes g.H.VHost.answers g.H.VHost.passes) g.H.VHost.floor
      (AfterPlace (length c.args.buf.now) c.args.flags c.args.place c.args.buf.now c.args.st.now) c.args.host.now;
  may = c.requires.may;
}

pub returns-in-Ended : goal.returns-in-Ended
returns-in-Ended g c =
    let host = doings g.H.VHost.publishes g.H.VHost.answers g.H.VHost.passes in
    let n = length c.args.buf.now in
    let l = c.loop-result in
    let same : length l.buf ≡ n = omega (arith, l.auto.buf) in
    then_ends host g.H.VHost.floor _ (AfterPlace n c.args.flags l.at l.buf l.st) _ _ l.invariant.leads _ _
    (subst (λ (k : ℕ). Ends host g.H.VHost.floor (AfterPlace k c.args.flags l.at l.buf l.st) l.host c.resume.new.host
    (record { state = c.resume.new.st; result = c.in-Ended.result; buf = c.resume.new.buf })) same
    c.in-Ended.ensures.came.0)

pub loop-result-preserved : goal.loop-result-preserved
loop-result-preserved g c =
    let host = doings g.H.VHost.publishes g.H.VHost.answers g.H.VHost.passes in
    let n = length c.args.buf.now in
    let l = c.loop-result in
    let next = c.in-At.next in
    let buf = c.resume.new.buf in
    let same : length l.buf ≡ n = omega (arith, l.auto.buf) in
    let passes = c.at.ensures.passes in
    let moved : Leads host g.H.VHost.floor (AfterPlace n c.args.flags l.at l.buf l.st)
    (AtPlace n c.args.flags next buf c.resume.new.st) l.host c.resume.new.host =
    subst (λ (k : ℕ). Leads host g.H.VHost.floor (AfterPlace k c.args.flags l.at l.buf l.st)
    (AtPlace k c.args.flags next buf c.resume.new.st) l.host c.resume.new.host) same c.in-At.ensures.came.0 in
    let passed = at_leads host g.H.VHost.floor n c.args.flags next buf c.resume.new.st c.at.new.st passes.0
    c.resume.new.host c.at.new.self passes.1 passes.2 c.at.ensures.floor in
    record {
      leads = then_leads host g.H.VHost.floor _ _ _ _ l.invariant.leads _ _
          (then_leads host g.H.VHost.floor _ _ _ _ moved _ _ passed);
      may = still_may next _ _ _ _ _ _ c.in-At.ensures.may.may c.at.ensures.looks c.at.ensures.calls c.at.ensures.floor;
    }
