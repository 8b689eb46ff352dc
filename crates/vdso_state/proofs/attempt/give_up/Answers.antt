use Rattle.std.proofs.Common.{length, subst}
use Rattle.key_names.specs.Kernel.VgetrandomState.{VgetrandomState}
use Rattle.key_names.specs.Kernel.Vgetrandom.{BySystem}
use Rattle.vdso_state.specs.Host.{doings}
use Rattle.vdso_state.specs.Places.{Ends}
use Rattle.vdso_state.proofs.attempt.give_up.Goals as goal

pub returns : goal.returns
returns g c = subst (λ (s : VgetrandomState).
    Ends (doings g.H.VHost.publishes g.H.VHost.answers g.H.VHost.passes) g.H.VHost.floor
    (BySystem (length c.args.buf.now) c.args.flags s) c.args.host.now c.ask_system.new.host
    (record { state = c.leave.new.self; result = c.ask_system.result; buf = c.ask_system.new.buf }))
    c.leave.ensures c.ask_system.ensures
