use Rattle.std.proofs.Common.{arith}
use Rattle.lane_table.specs.Advances.{floor}
use Rattle.lane_table.specs.Calls.{view}
use Rattle.fork_runs.proofs.Looks.{seen_ready}
use Rattle.fork_runs.proofs.Stretching.{climbs_up, loans, has_still, finished_over}
use Rattle.fork_runs.proofs.stretches.finish_on_host.Goals as goal

pub returns-clause-loans : goal.returns-clause-loans
returns-clause-loans g c = loans _ _ _ c.finish-ended.ensures.runs.does

pub returns-clause-has : goal.returns-clause-has
returns-clause-has g c = has_still _ _ _ c.finish-ended.ensures.runs.does

pub returns-clause-seen : goal.returns-clause-seen
returns-clause-seen g c = climbs_up _ _ c.finish-ended.ensures.runs.steps c.finish-ended.ensures.climbs

pub returns-clause-finished : goal.returns-clause-finished
returns-clause-finished g c = finished_over c.args.host.now c.finish-ended.new.host c.requires.idle
    (let a = c.args.host.now.free.pass.sized in let b = c.args.host.now.site.lanes.now.few in omega arith) _ _ _ _ _ _ _ _
    c.requires.stopped c.requires.plain
    (seen_ready (floor (view c.args.host.now.site.pass.now)) c.args.call.stage c.args.call.ready c.requires.stopped
    c.requires.known) c.finish-ended.ensures
