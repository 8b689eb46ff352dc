use Rattle.std.proofs.Common.{◌+◌}
use Rattle.lane_table.specs.Calls.{plan_of, view}
use Rattle.lane_table.proofs.Calls.HandLemmas.{has_new, idle_of}
use Rattle.caller_run.proofs.Forks.AllCallers.{starts_first, starts_whole, ends_whole}
use Rattle.caller_run.proofs.new_table.run_new.Goals as goal

pub run_plan-pass-requires-clause-has : goal.run_plan-pass-requires-clause-has
run_plan-pass-requires-clause-has g c κs within =
    let made = c.in_ok-lanes in
    has_new made.lanes 0 (plan_of (c.cpus.result + 2) 0) made.pass made.ensures.pass.0 made.ensures.pass.1
    made.ensures.seat

pub close-visits-requires-clause-idle : goal.close-visits-requires-clause-idle
close-visits-requires-clause-idle g c = idle_of c.in_ok-lanes.lanes 0 c.run_plan-pass.result.0 c.run_plan-pass.ensures.has

pub close-visits-requires-clause-whole : goal.close-visits-requires-clause-whole
close-visits-requires-clause-whole g c =
    ends_whole (plan_of (c.cpus.result + 2) 0) c.in_ok-lanes.pass c.in_ok-lanes.ensures.seat c.run_plan-pass.result.0
    c.run_plan-pass.ensures.share

pub returns : goal.returns
returns g c =
    let plan = plan_of (c.cpus.result + 2) 0 in let p = c.in_ok-lanes.pass in let seat = c.in_ok-lanes.ensures.seat in (
      view c.run_plan-pass.result.0,
      (c.run_plan-pass.ensures.whole (starts_first plan p seat) (starts_whole plan p seat)).lawful,
    )
