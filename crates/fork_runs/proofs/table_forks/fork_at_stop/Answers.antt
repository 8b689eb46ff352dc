use Rattle.std.proofs.Common.{◌≡◌, ◌≤◌, [], rules, ap, arith, subst, sym}
use Rattle.key_names.specs.Callers.VreadSteps.{published_by}
use Rattle.lane_table.specs.declared.lanes.Lanes.{Lanes}
use Rattle.lane_table.specs.declared.lanes.Pass.{Pass}
use Rattle.lane_table.specs.Advances.{floor}
use Rattle.lane_table.specs.Calls.{view}
use Rattle.lane_table.specs.Hands.{HoldsLanes}
use Rattle.lane_table.specs.Steps.{Seated}
use Rattle.lane_table.proofs.Calls.HandLemmas.{has_joined}
use Rattle.rng_core.specs.declared.setting.Setting.{Setting}
use Rattle.rng_core.proofs.Makings.{did_floor}
use Rattle.vcall_fork.specs.declared.call.VCall.{VCall}
use Rattle.vcall_fork.specs.Stages.{published_or}
use Rattle.fork_runs.proofs.Reaching.{parent_known, child_known}
use Rattle.fork_runs.proofs.table_forks.fork_at_stop.Goals as goal

pub finish-requires-clause-known : goal.finish-requires-clause-known
finish-requires-clause-known g c =
    let f = c.fork-child_pass.ensures.forked in
    let back : c.fork-child_pass.new.site.pass.now ≡ c.pass-2-1.given.0 = search rules in
    subst (λ (p : Pass). published_or 0 c.args.held.now.call.stage ≤ published_by (floor (view p))) back
    (parent_known c.args.held.now.call.stage (view c.args.pass) f.before (view c.fork-child_pass.new.site.pass.now)
    c.requires.known (did_floor _ _ _ f.did) f.pass_is)

pub finish-requires-2-clause-known : goal.finish-requires-2-clause-known
finish-requires-2-clause-known g c =
    let f = c.fork-child_pass.ensures.forked in
    let stage = c.args.held.now.call.stage in
    let back : c.fork-child_pass.new.site.pass.now ≡ c.pass-2-1.given.0 = search rules in
    let low : published_or 0 stage ≤ published_by (floor (view c.pass-2-1.given.0)) =
    subst (λ (p : Pass). published_or 0 stage ≤ published_by (floor (view p))) back
    (parent_known stage (view c.args.pass) f.before (view c.fork-child_pass.new.site.pass.now) c.requires.known
    (did_floor _ _ _ f.did) f.pass_is) in
    let seen = c.finish.ensures.seen in
    let a = c.finish.ensures.has.pass.sized in
    let b = c.fork-child_pass.ensures.child_has.pass.sized in
    let d = ap (λ (t : Lanes). t.cpus) c.fork-child_pass.ensures.same.lanes in
    child_known stage c.fork_call-st.result.0.stage (view c.args.pass) f.before (view c.fork-child_pass.result)
    (view c.finish.new.pass) (view c.join.new.pass) c.requires.known (did_floor _ _ _ f.did) f.child_is
    (ap (λ (x : VCall). x.stage) c.fork_call-st.ensures.call) (omega arith) (omega arith)
    (ap (λ (m : Seated). m.0) c.join.ensures.both)

pub finish-requires-2-clause-has : goal.finish-requires-2-clause-has
finish-requires-2-clause-has g c =
    let lanes = c.args.caller.now.lanes.now in
    let a = c.finish.ensures.has.pass.sized in
    let b = c.fork-child_pass.ensures.child_has.pass.sized in
    let d = ap (λ (t : Lanes). t.cpus) c.fork-child_pass.ensures.same.lanes in
    subst (λ (set : Setting). HoldsLanes lanes set.caller [] c.join.new.pass) (sym c.first.ensures)
    (has_joined lanes 1 (view c.finish.new.pass) c.fork-child_pass.result c.join.new.pass (omega arith)
    (subst (λ (t : Lanes). HoldsLanes t 1 [] c.fork-child_pass.result) c.fork-child_pass.ensures.same.lanes
    c.fork-child_pass.ensures.child_has) c.join.ensures.pass c.join.ensures.both)

pub returns-clause-has : goal.returns-clause-has
returns-clause-has g c = subst (λ (set : Setting). HoldsLanes c.args.caller.now.lanes.now set.caller []
    c.finish-2.new.pass) c.first.ensures c.finish-2.ensures.has
