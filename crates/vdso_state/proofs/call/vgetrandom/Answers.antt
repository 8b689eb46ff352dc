use Rattle.std.proofs.Common.{◌≡◌, ℕ, length, subst, arith}
use Rattle.vdso_state.specs.Host.{doings}
use Rattle.vdso_state.specs.Places.{AfterPlace, Ends}
use Rattle.vdso_state.proofs.Leading.{then_leads, then_ends, at_leads, still_may}
use Rattle.vdso_state.proofs.call.vgetrandom.Goals as goal

pub returns-in-At : goal.returns-in-At
returns-in-At g c =
    let host = doings g.H.VHost.publishes g.H.VHost.answers g.H.VHost.passes in
    let n = length c.args.buf.now in
    let place = c.in-At.place in
    let buf = c.begin.new.buf in
    let same : length buf ≡ n = omega (arith, c.begin.auto.buf) in
    let passes = c.at.ensures.passes in
    let passed = at_leads host g.H.VHost.floor n c.args.flags place buf c.begin.new.st c.at.new.st passes.0
    c.begin.new.host c.at.new.self passes.1 passes.2 c.at.ensures.floor in
    let ends = subst (λ (k : ℕ). Ends host g.H.VHost.floor (AfterPlace k c.args.flags place buf c.at.new.st)
    c.at.new.self c.finish.new.host
    (record { state = c.finish.new.st; result = c.finish.result; buf = c.finish.new.buf })) same
    c.finish.ensures in
    then_ends host g.H.VHost.floor _ _ _ _
    (then_leads host g.H.VHost.floor _ _ _ _ c.in-At.ensures.came.0 _ _ passed) _ _ ends

pub finish-requires-clause-may : goal.finish-requires-clause-may
finish-requires-clause-may g c = still_may c.in-At.place _ _ _ _ _ _ c.in-At.ensures.may.may c.at.ensures.looks
    c.at.ensures.calls c.at.ensures.floor
