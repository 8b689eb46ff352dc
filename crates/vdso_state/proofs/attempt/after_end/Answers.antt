use Rattle.std.proofs.Common.{sym, ◌∙◌}
use Rattle.vdso_state.specs.Host.{doings}
use Rattle.vdso_state.proofs.Stepping.{end_holds, end_again, end_outdated}
use Rattle.vdso_state.proofs.attempt.after_end.Goals as goal

pub returns-then-published-generation-clause-came : goal.returns-then-published-generation-clause-came
returns-then-published-generation-clause-came g c =
    let host = doings g.H.VHost.publishes g.H.VHost.answers g.H.VHost.passes in
    let look = c.published-published.ensures in
    end_holds host g.H.VHost.floor _ _ _ c.args.place.published _ c.published-published.result _ _ _ _ _
    (c.if-published-generation.true ∙ c.generation.ensures) c.leave.ensures look.publishes look.not_below look.floor

pub returns-in-First-clause-came : goal.returns-in-First-clause-came
returns-in-First-clause-came g c =
    let host = doings g.H.VHost.publishes g.H.VHost.answers g.H.VHost.passes in
    let look = c.published-published.ensures in
    let again = c.published.ensures in
    rw c.in-First.is (end_again host g.H.VHost.floor _ _ _ _ c.published-published.result _ _ _ _ _ _
    (λ same. c.if-published-generation.false (same ∙ sym c.generation.ensures)) look.publishes again.publishes
    look.not_below look.floor again.not_below again.floor)

pub returns-in-Second-clause-came : goal.returns-in-Second-clause-came
returns-in-Second-clause-came g c =
    let host = doings g.H.VHost.publishes g.H.VHost.answers g.H.VHost.passes in
    let look = c.published-published.ensures in
    rw c.in-Second.is (end_outdated host g.H.VHost.floor _ _ c.args.place.published _ c.published-published.result _ _
    _ _ _ _ _ _
    (λ same. c.if-published-generation.false (same ∙ sym c.generation.ensures)) look.publishes look.not_below
    look.floor c.give_up.ensures)
