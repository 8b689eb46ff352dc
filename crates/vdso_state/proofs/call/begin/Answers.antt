use Rattle.std.proofs.Common.{length, sym, Ok}
use Rattle.std.proofs.lemmas.Bool.{eqb-true, eqb-false}
use Rattle.key_names.specs.declared.point.Point.TheVariants.{Start}
use Rattle.vdso_state.specs.declared.outcome.VEnd.TheVariants.{Zero}
use Rattle.vdso_state.specs.declared.place.Turn.TheVariants.{First}
use Rattle.vdso_state.specs.declared.place.Came.TheVariants.{At, Ended}
use Rattle.vdso_state.specs.Host.{doings}
use Rattle.vdso_state.proofs.Calling.{bad_flags, looked_then, not_ready, already_in_use, nothing_done, tries}
use Rattle.vdso_state.proofs.call.begin.Goals as goal

pub returns-then-are_bad-clause-came : goal.returns-then-are_bad-clause-came
returns-then-are_bad-clause-came g c =
    let host = doings g.H.VHost.publishes g.H.VHost.answers g.H.VHost.passes in
    bad_flags host g.H.VHost.floor (length c.args.buf.now) c.args.flags 0 _ _ _ _ (sym c.if-are_bad.ensures)
    c.ask_system.ensures

pub returns-then-published-eq0-clause-came : goal.returns-then-published-eq0-clause-came
returns-then-published-eq0-clause-came g c =
    let host = doings g.H.VHost.publishes g.H.VHost.answers g.H.VHost.passes in
    let n = length c.args.buf.now in
    let look = c.published.ensures in
    looked_then host g.H.VHost.floor n c.args.flags 0 c.published.result _ _ _ _ (Ended c.ask_system-then-published-eq0.result) _ _ (sym c.if-are_bad.ensures)
    look.publishes look.not_below look.floor
    (not_ready host g.H.VHost.floor n c.args.flags c.published.result _ _ _ _ _ c.if-published-eq0.true
    c.ask_system-then-published-eq0.ensures)

pub returns-then-is_empty-clause-came : goal.returns-then-is_empty-clause-came
returns-then-is_empty-clause-came g c =
    let host = doings g.H.VHost.publishes g.H.VHost.answers g.H.VHost.passes in
    let n = length c.args.buf.now in
    let look = c.published.ensures in
    looked_then host g.H.VHost.floor n c.args.flags 0 c.published.result _ _ _ _ (Ended (Ok Zero)) _ _ (sym c.if-are_bad.ensures)
    look.publishes look.not_below look.floor
    (nothing_done host g.H.VHost.floor n c.args.flags c.published.result _ _ _ _ c.if-published-eq0.false
    (eqb-true n 0 (sym c.if-is_empty.ensures)))

pub returns-then-is_in_use-clause-came : goal.returns-then-is_in_use-clause-came
returns-then-is_in_use-clause-came g c =
    let host = doings g.H.VHost.publishes g.H.VHost.answers g.H.VHost.passes in
    let n = length c.args.buf.now in
    let look = c.published.ensures in
    looked_then host g.H.VHost.floor n c.args.flags 0 c.published.result _ _ _ _ (Ended c.ask_system-then-is_in_use.result) _ _ (sym c.if-are_bad.ensures)
    look.publishes look.not_below look.floor
    (already_in_use host g.H.VHost.floor n c.args.flags c.published.result _ _ _ _ _ c.if-published-eq0.false
    (eqb-false n 0 (sym c.if-is_empty.ensures)) (sym c.if-is_in_use.ensures) c.ask_system-then-is_in_use.ensures)

pub returns-clause-came : goal.returns-clause-came
returns-clause-came g c =
    let host = doings g.H.VHost.publishes g.H.VHost.answers g.H.VHost.passes in
    let n = length c.args.buf.now in
    let look = c.published.ensures in
    let again = c.published-2.ensures in
    looked_then host g.H.VHost.floor n c.args.flags 0 c.published.result _ _ _ _ (At (record { turn = First; point = Start; published = c.published-2.result; next_block = 0 })) _ c.args.buf.now (sym c.if-are_bad.ensures)
    look.publishes look.not_below look.floor
    (tries host g.H.VHost.floor n c.args.flags c.published.result _ _ _ _ _ c.published-2.result c.args.buf.now
    c.if-published-eq0.false (eqb-false n 0 (sym c.if-is_empty.ensures)) (sym c.if-is_in_use.ensures) c.enter.ensures again.publishes
    again.not_below again.floor)
