use Rattle.std.proofs.Common.{arith}
use Rattle.fork_runs.proofs.Stretching.{loans, has_still, missed_over, stopped_over}
use Rattle.fork_runs.proofs.stretches.run_on_host.Goals as goal

pub returns-in-At-clause-loans : goal.returns-in-At-clause-loans
returns-in-At-clause-loans g c = loans _ _ _ c.in-At.ensures.ran.leads.does

pub returns-in-At-clause-has : goal.returns-in-At-clause-has
returns-in-At-clause-has g c = has_still _ _ _ c.in-At.ensures.ran.leads.does

pub returns-in-At-clause-stopped : goal.returns-in-At-clause-stopped
returns-in-At-clause-stopped g c = λ _. stopped_over c.args.host.now c.run_to.new.host c.requires.idle
    (let a = c.args.host.now.free.pass.sized in let b = c.args.host.now.site.lanes.now.few in omega arith) _ _ _ _ _ _ _ _ _
    _ _ _ _ c.requires.ready c.in-At.ensures.ran

pub returns-in-Ended-clause-loans : goal.returns-in-Ended-clause-loans
returns-in-Ended-clause-loans g c = loans _ _ _ c.in-Ended.ensures.ran.ends.runs.does

pub returns-in-Ended-clause-has : goal.returns-in-Ended-clause-has
returns-in-Ended-clause-has g c = has_still _ _ _ c.in-Ended.ensures.ran.ends.runs.does

pub returns-in-Ended-clause-missed : goal.returns-in-Ended-clause-missed
returns-in-Ended-clause-missed g c = λ _. missed_over c.args.host.now c.run_to.new.host c.requires.idle
    (let a = c.args.host.now.free.pass.sized in let b = c.args.host.now.site.lanes.now.few in omega arith) _ _ _ _ _ _ _ _ _
    _ _ c.requires.ready c.in-Ended.ensures.ran
