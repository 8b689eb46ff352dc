use Rattle.std.proofs.Common.{length}
use Rattle.vdso_state.specs.Host.{doings}
use Rattle.vdso_state.specs.Turns.{points_for, turns_before}
use Rattle.vdso_state.specs.Places.{AtPlace, MayGoOn}
use Rattle.vcall_fork.proofs.Stopping.{Walked}
use Rattle.vcall_fork.proofs.call.until.Given as goal

abbrev pub invariant-points : goal.invariant-points
invariant-points g l = record {
  walked : Walked l.attempt l.point (doings g.H.VHost.publishes g.H.VHost.answers g.H.VHost.passes) g.H.VHost.floor
      (AtPlace (length l.initial.buf) l.flags l.initial.at l.initial.buf l.initial.st) (length l.initial.buf) l.flags
      (turns_before l.initial.at.turn l.initial.at.point) l.initial.at.published l.at l.initial.host l.host l.st l.buf;
  may : MayGoOn l.at (g.H.VHost.looks_left l.host) (g.H.VHost.calls_left l.host) (g.H.VHost.floor l.host);
}

abbrev pub decreases-points : goal.decreases-points
decreases-points g l = points_for l.at.turn l.at.point
