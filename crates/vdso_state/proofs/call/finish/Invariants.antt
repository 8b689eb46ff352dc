use Rattle.std.proofs.Common.{length}
use Rattle.vdso_state.specs.Host.{doings}
use Rattle.vdso_state.specs.Turns.{points_for}
use Rattle.vdso_state.specs.Places.{AfterPlace, Leads, MayGoOn}
use Rattle.vdso_state.proofs.call.finish.Given as goal

abbrev pub invariant-loop-result : goal.invariant-loop-result
invariant-loop-result g l = record {
  leads : Leads (doings g.H.VHost.publishes g.H.VHost.answers g.H.VHost.passes) g.H.VHost.floor
      (AfterPlace (length l.initial.buf) l.flags l.initial.at l.initial.buf l.initial.st)
      (AfterPlace (length l.initial.buf) l.flags l.at l.buf l.st) l.initial.host l.host;
  may : MayGoOn l.at (g.H.VHost.looks_left l.host) (g.H.VHost.calls_left l.host) (g.H.VHost.floor l.host);
}

abbrev pub decreases-loop-result : goal.decreases-loop-result
decreases-loop-result g l = points_for l.at.turn l.at.point
