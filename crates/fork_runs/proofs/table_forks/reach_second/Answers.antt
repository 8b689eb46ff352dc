use Rattle.std.proofs.Common.{arith}
use Rattle.lane_table.specs.Calls.{view}
use Rattle.rng_core.proofs.Makings.{did_floor}
use Rattle.fork_runs.proofs.Coming.{never_misses_second}
use Rattle.fork_runs.proofs.Reaching.{known_on, stop_known, by_second}
use Rattle.fork_runs.proofs.table_forks.reach_second.Goals as goal

pub reseed_once-requires-clause-ready : goal.reseed_once-requires-clause-ready
reseed_once-requires-clause-ready g c =
    let a = did_floor _ _ _ c.reach_first.ensures.stopped.1.did in let b = c.requires.ready in omega arith

pub run_to-requires-clause-known : goal.run_to-requires-clause-known
run_to-requires-clause-known g c =
    let reseeded = c.reseed_once.ensures.did in
    known_on c.args.caller.now.set c.reach_first.new.held.call.stage (view c.reach_first.new.pass)
    (view c.reseed_once.new.pass) reseeded.0
    (stop_known _ _ _ _ _ _ _ _ _ _ _ _ _ c.reach_first.ensures.stopped) reseeded.1

pub unreachable-requires : goal.unreachable-requires
unreachable-requires g c = never_misses_second c.forks_are_recorded.ensures c.args.caller.now.set
    c.args.held.now.call.len c.args.held.now.call.flags c.args.held.now.call.stage c.reach_first.new.held.call.stage
    c.args.buf.now c.reach_first.new.buf c.args.held.now.st c.reach_first.new.held.st c.args.point
    (view c.args.pass.now) (view c.reach_first.new.pass) (view c.reseed_once.new.pass) (view c.run_to.new.pass)
    c.requires.new c.requires.plain c.requires.wiped c.requires.some c.requires.ready c.reach_first.ensures.stopped
    c.reseed_once.ensures.rises c.reach_first.new.held.call.len c.reach_first.new.held.call.flags
    c.reach_first.ensures.len c.reach_first.ensures.flags (c.run_to.ensures.missed c.if-not-run_to.true)

pub returns-clause-reached : goal.returns-clause-reached
returns-clause-reached g c = by_second c.forks_are_recorded.ensures c.args.caller.now.set c.args.held.now.call.len
    c.args.held.now.call.flags c.args.held.now.st c.args.point c.args.held.now.call.stage c.reach_first.new.held.call.stage
    c.run_to.new.held.call.stage c.args.buf.now c.reach_first.new.buf c.run_to.new.buf c.reach_first.new.held.st
    c.run_to.new.held.st (view c.args.pass.now) (view c.reach_first.new.pass) (view c.reseed_once.new.pass)
    (view c.run_to.new.pass) c.requires.new c.reach_first.ensures.stopped c.reseed_once.ensures.did
    c.reach_first.new.held.call.len c.reach_first.new.held.call.flags c.reach_first.ensures.len
    c.reach_first.ensures.flags (c.run_to.ensures.stopped c.if-not-run_to.false)
