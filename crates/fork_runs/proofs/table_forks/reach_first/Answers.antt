use Rattle.lane_table.specs.Calls.{view}
use Rattle.fork_runs.proofs.Coming.{never_misses_first}
use Rattle.fork_runs.proofs.table_forks.reach_first.Goals as goal

pub unreachable-requires : goal.unreachable-requires
unreachable-requires g c = never_misses_first c.args.held.now.call.len c.args.held.now.call.flags
    c.args.held.now.call.stage c.args.buf.now c.args.held.now.st c.args.point (view c.args.pass.now)
    (view c.run_to.new.pass) c.requires.new c.requires.plain c.requires.wiped c.requires.some c.requires.ready
    (c.run_to.ensures.missed c.if-not-run_to.true)
