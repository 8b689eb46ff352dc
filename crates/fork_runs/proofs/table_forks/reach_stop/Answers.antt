use Rattle.std.proofs.Common.{sym, subst}
use Rattle.lane_table.specs.Calls.{view}
use Rattle.vdso_state.specs.declared.place.Turn.{Turn}
use Rattle.fork_runs.specs.Runs.{ReachedStop}
use Rattle.fork_runs.proofs.Reaching.{by_first}
use Rattle.fork_runs.proofs.table_forks.reach_stop.Goals as goal

pub returns-in-First-clause-reached : goal.returns-in-First-clause-reached
returns-in-First-clause-reached g c =
    let set = c.args.caller.now.set in
    let own = c.args.held.now in
    let left = c.reach_first.new.held in
    let out = c.reach_first.new.buf in
    let v = view c.args.pass.now in
    let w = view c.reach_first.new.pass in
    subst (λ (turn : Turn). ReachedStop set own.call.len own.call.flags own.st turn c.args.stop.point left.call.stage out
    left.st v w) (sym c.in-First.is)
    (by_first set own.call.len own.call.flags own.call.stage c.args.buf.now own.st c.args.stop.point left.call.stage out
    left.st v w c.requires.new c.reach_first.ensures.stopped)

pub returns-in-Second-clause-reached : goal.returns-in-Second-clause-reached
returns-in-Second-clause-reached g c =
    subst (λ (turn : Turn). ReachedStop c.args.caller.now.set c.args.held.now.call.len c.args.held.now.call.flags c.args.held.now.st turn
    c.args.stop.point c.reach_second.new.held.call.stage c.reach_second.new.buf c.reach_second.new.held.st (view c.args.pass.now)
    (view c.reach_second.new.pass)) (sym c.in-Second.is) c.reach_second.ensures.reached
