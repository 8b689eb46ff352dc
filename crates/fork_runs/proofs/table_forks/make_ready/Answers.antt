use Rattle.std.proofs.Common.{ℕ, ◌+◌, ◌≤◌, List, sym, subst, ap}
use Rattle.std.specs.List.{range_with_len}
use Rattle.key_names.specs.declared.events.Answer.TheVariants.{Ok as Done}
use Rattle.key_names.specs.declared.events.Event.TheVariants.{Add}
use Rattle.key_names.specs.declared.names.Step.{Step}
use Rattle.key_names.specs.Transcripts.SeenLine.{no_data}
use Rattle.lane_table.specs.declared.view.View.{View}
use Rattle.lane_table.specs.Advances.{floor}
use Rattle.lane_table.specs.Calls.{view}
use Rattle.lane_table.specs.Steps.{Seated}
use Rattle.lane_table.proofs.Calls.HandLemmas.{idle_of}
use Rattle.rng_core.specs.Makes.{IsOutcomeOf, setting_of}
use Rattle.fork_runs.specs.Runs.{DidAll}
use Rattle.fork_runs.proofs.Readiness.{has_settled, readied}
use Rattle.fork_runs.proofs.table_forks.make_ready.Goals as goal

pub returns-clause-has : goal.returns-clause-has
returns-clause-has g c = has_settled c.args.lanes.now c.args.set.caller c.add_first_sample.new.pass c.settle.new.pass
    c.add_first_sample.ensures.has c.settle.ensures.pass c.settle.ensures.same

pub returns-clause-ready : goal.returns-clause-ready
returns-clause-ready g c =
    let lanes = c.args.lanes.now in
    let has = c.add_first_sample.ensures.has in
    subst (λ (w : View). 1 ≤ floor w) (sym (ap (λ (m : Seated). m.0) c.settle.ensures.same))
    (readied c.args.set (view c.args.pass.now) (view c.add_first_sample.new.pass) (lanes.cpus + 2) c.requires.first
    c.requires.new (ap (λ (k : ℕ). k + 2) c.requires.one) has.pass.sized
    (λ share. c.settle.ensures.ended share (idle_of lanes c.args.set.caller c.add_first_sample.new.pass has))
    c.add_first_sample.ensures.did)

pub returns-clause-did : goal.returns-clause-did
returns-clause-did g c = subst (λ (w : View). (own : List Step)
    × DidAll (IsOutcomeOf (setting_of c.args.set) (Add (range_with_len 0 32) 256) Done no_data) c.args.set
    (view c.args.pass.now) own w) (sym (ap (λ (m : Seated). m.0) c.settle.ensures.same)) c.add_first_sample.ensures.did
