use Rattle.std.proofs.Common.{◌≡◌, ℕ, length, subst, sym, arith}
use Rattle.vdso_state.specs.declared.place.Came.TheVariants.{At, Ended}
use Rattle.vdso_state.specs.Host.{doings}
use Rattle.vdso_state.specs.Turns.{turns_before}
use Rattle.vdso_state.specs.Places.{AfterPlace, AtPlace, CameTo}
use Rattle.vdso_state.proofs.Leading.{still_may}
use Rattle.vcall_fork.proofs.Stopping.{walk_starts, walk_on, walk_to_end}
use Rattle.vcall_fork.proofs.call.until.Goals as goal

pub points-init : goal.points-init
points-init g c =
    let host = doings g.H.VHost.publishes g.H.VHost.answers g.H.VHost.passes in
    let n = length c.args.buf.now in
    record {
      walked = walk_starts c.args.attempt c.args.point host g.H.VHost.floor
          (AtPlace n c.args.flags c.args.place c.args.buf.now c.args.st.now) n c.args.flags
          (turns_before c.args.place.turn c.args.place.point) c.args.place.published c.args.place c.args.host.now
          c.args.st.now c.args.buf.now;
      may = c.requires.may;
    }

pub returns-in-Ended : goal.returns-in-Ended
returns-in-Ended g c =
    let host = doings g.H.VHost.publishes g.H.VHost.answers g.H.VHost.passes in
    let n = length c.args.buf.now in
    let l = c.points in
    let same : length l.buf ≡ n = omega (arith, l.auto.buf) in
    let passes = c.at.ensures.passes in
    walk_to_end c.args.attempt c.args.point host g.H.VHost.floor
    (AtPlace n c.args.flags c.args.place c.args.buf.now c.args.st.now) n c.args.flags
    (turns_before c.args.place.turn c.args.place.point) c.args.place.published l.at c.args.host.now l.host
    c.at.new.self l.st c.at.new.st l.buf passes.0 l.invariant.walked passes.1 passes.2 c.at.ensures.floor
    (sym c.points-test.ensures) c.in-Ended.result c.resume.new.host c.resume.new.st c.resume.new.buf
    (subst (λ (k : ℕ). CameTo host g.H.VHost.floor (AfterPlace k c.args.flags l.at l.buf c.at.new.st) k c.args.flags
    l.at.published (Ended c.in-Ended.result) c.at.new.self c.resume.new.host c.resume.new.st c.resume.new.buf) same
    c.in-Ended.ensures.came)

pub points-preserved : goal.points-preserved
points-preserved g c =
    let host = doings g.H.VHost.publishes g.H.VHost.answers g.H.VHost.passes in
    let n = length c.args.buf.now in
    let l = c.points in
    let same : length l.buf ≡ n = omega (arith, l.auto.buf) in
    let passes = c.at.ensures.passes in
    let goes = c.in-At.ensures.may in
    record {
      walked = walk_on c.args.attempt c.args.point host g.H.VHost.floor
          (AtPlace n c.args.flags c.args.place c.args.buf.now c.args.st.now) n c.args.flags
          (turns_before c.args.place.turn c.args.place.point) c.args.place.published l.at c.args.host.now l.host
          c.at.new.self l.st c.at.new.st l.buf passes.0 l.invariant.walked passes.1 passes.2 c.at.ensures.floor
          (sym c.points-test.ensures) c.in-At.next c.resume.new.host c.resume.new.st c.resume.new.buf
          (subst (λ (k : ℕ). CameTo host g.H.VHost.floor (AfterPlace k c.args.flags l.at l.buf c.at.new.st) k
          c.args.flags l.at.published (At c.in-At.next) c.at.new.self c.resume.new.host c.resume.new.st
          c.resume.new.buf) same c.in-At.ensures.came) goes.turns_are;
      may = goes.may;
    }

pub resume-requires-clause-may : goal.resume-requires-clause-may
resume-requires-clause-may g c = still_may c.points.at _ _ _ _ _ _ c.points.invariant.may c.at.ensures.looks
    c.at.ensures.calls c.at.ensures.floor

pub returns : goal.returns
returns g c =
    let l = c.points in
    record {
      leads = l.invariant.walked.leads;
      misses = record { following = turns_before l.at.turn l.at.point; passes = l.invariant.walked.passes };
      found = l.invariant.walked.found;
      wanted = sym c.points-test.ensures;
      may = l.invariant.may;
    }
