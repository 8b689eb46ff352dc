use Rattle.std.proofs.Common.{◌≡◌, ℕ, length, subst, sym, refl, arith}
use Rattle.vdso_state.specs.Host.{doings}
use Rattle.vdso_state.specs.Places.{AtPlace}
use Rattle.vdso_state.specs.Turns.{turns_before}
use Rattle.vcall_fork.specs.declared.stage.Progress.{Progress}
use Rattle.vcall_fork.specs.declared.stage.Stage.TheVariants.{At}
use Rattle.vcall_fork.specs.Stages.{turns_begun, published_or}
use Rattle.vcall_fork.specs.Stops.{RestOfCall, CameAt, CameToEnd, RanTo}
use Rattle.vcall_fork.proofs.Stopping.{stops, ends_before, ends_at_once}
use Rattle.vcall_fork.proofs.call.VCall.run_to.Goals as goal

pub returns-in-Ended-clause-ran : goal.returns-in-Ended-clause-ran
returns-in-Ended-clause-ran g c =
    let host = doings g.H.VHost.publishes g.H.VHost.answers g.H.VHost.passes in
    let call = c.args.self.now in
    let From = RestOfCall call.stage call.len call.flags c.args.buf.now c.args.st.now in
    subst (λ (progress : Progress). RanTo host g.H.VHost.floor From call.len call.flags c.args.attempt c.args.point
    (turns_begun call.stage) (published_or 0 call.stage) c.end.new.self.stage progress
    (g.H.VHost.looks_left c.go_on.new.host) (g.H.VHost.calls_left c.go_on.new.host) c.args.host.now
    c.go_on.new.host c.go_on.new.st c.go_on.new.buf)
    (sym c.end.ensures.progress)
    (ends_at_once c.args.attempt c.args.point host g.H.VHost.floor From call.len call.flags (turns_begun call.stage)
    (published_or 0 call.stage) c.in-Ended.result c.args.host.now c.go_on.new.host c.go_on.new.st c.go_on.new.buf
    c.end.new.self.stage c.end.ensures.stage c.in-Ended.ensures.came)

pub returns-in-Ended-until-clause-ran : goal.returns-in-Ended-until-clause-ran
returns-in-Ended-until-clause-ran g c =
    let host = doings g.H.VHost.publishes g.H.VHost.answers g.H.VHost.passes in
    let call = c.args.self.now in
    let From = RestOfCall call.stage call.len call.flags c.args.buf.now c.args.st.now in
    let place = c.in-At.place in
    let buf = c.go_on.new.buf in
    let same : length buf ≡ call.len = omega (arith, c.go_on.auto.buf) in
    subst (λ (progress : Progress). RanTo host g.H.VHost.floor From call.len call.flags c.args.attempt c.args.point
    (turns_begun call.stage) (published_or 0 call.stage) c.end-in-Ended-until.new.self.stage progress
    (g.H.VHost.looks_left c.until.new.host) (g.H.VHost.calls_left c.until.new.host) c.args.host.now
    c.until.new.host c.until.new.st c.until.new.buf)
    (sym c.end-in-Ended-until.ensures.progress)
    (ends_before c.args.attempt c.args.point host g.H.VHost.floor From call.len call.flags (turns_begun call.stage)
    (published_or 0 call.stage) place c.args.host.now c.go_on.new.host c.go_on.new.st buf c.in-At.ensures.came
    c.in-At.ensures.may.turns_are c.in-Ended-until.result c.until.new.host c.until.new.st c.until.new.buf
    c.end-in-Ended-until.new.self.stage c.end-in-Ended-until.ensures.stage
    (subst (λ (k : ℕ). CameToEnd host g.H.VHost.floor (AtPlace k call.flags place buf c.go_on.new.st) c.args.attempt
    c.args.point (turns_before place.turn place.point) c.in-Ended-until.result c.go_on.new.host c.until.new.host
    c.until.new.st c.until.new.buf) same c.in-Ended-until.ensures))

pub returns-in-At-until-clause-ran : goal.returns-in-At-until-clause-ran
returns-in-At-until-clause-ran g c =
    let host = doings g.H.VHost.publishes g.H.VHost.answers g.H.VHost.passes in
    let call = c.args.self.now in
    let From = RestOfCall call.stage call.len call.flags c.args.buf.now c.args.st.now in
    let place = c.in-At.place in
    let buf = c.go_on.new.buf in
    let same : length buf ≡ call.len = omega (arith, c.go_on.auto.buf) in
    stops c.args.attempt c.args.point host g.H.VHost.floor From call.len call.flags (turns_begun call.stage)
    (published_or 0 call.stage) place c.args.host.now c.go_on.new.host c.go_on.new.st buf c.in-At.ensures.came
    c.in-At.ensures.may.turns_are c.in-At-until.stop c.until.new.host c.until.new.st c.until.new.buf
    (At c.in-At-until.stop) refl (g.H.VHost.looks_left c.until.new.host) (g.H.VHost.calls_left c.until.new.host)
    (subst (λ (k : ℕ). CameAt host g.H.VHost.floor (AtPlace k call.flags place buf c.go_on.new.st) k call.flags
    c.args.attempt c.args.point (turns_before place.turn place.point) place.published c.in-At-until.stop
    (g.H.VHost.looks_left c.until.new.host) (g.H.VHost.calls_left c.until.new.host) c.go_on.new.host
    c.until.new.host c.until.new.st c.until.new.buf) same c.in-At-until.ensures)
