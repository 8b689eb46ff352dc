use Rattle.std.proofs.Common.{rules, ◌≡◌, ℕ, ◌+◌, ◌<◌, Some, length, map, refl, sym, ap, ◌∙◌, subst, arith}
use Rattle.std.specs.Prelude.{slice_get}
use Rattle.key_names.specs.Lanes.Book.{list_at}
use Rattle.key_names.proofs.Lists.ListFacts.{list_is}
use Rattle.lane_table.proofs.Calls.HandLemmas.{idle_of}
use Rattle.rng_core.specs.Traces.{moment}
use Rattle.caller_run.specs.ForkTree.{Layout, fork_tree_of}
use Rattle.caller_run.specs.Layouts.{layout, layout_by}
use Rattle.caller_run.specs.RunningCallers.{load, kids_of, SameKids, WentBeside}
use Rattle.caller_run.proofs.Forks.WentOn.{can_still, here_floor, here_fits, can_on, thread_took, here_took, past, went_end, went_fork, can_start, returned}
use Rattle.caller_run.proofs.run.+callers.Goals as goal

-- ---- a fork, in the scope of the child's thread ----

pub run_from-scope-run_from-running-requires-after_bounds : goal.run_from-scope-run_from-running-requires-after_bounds
run_from-scope-run_from-running-requires-after_bounds g t c κs within =
    let k = c.captures in
    can_on k.lanes.now k.script.now k.child k.rest.now k.running c.tell_fork.new.self k.trace c.requires.1.parent_can
    c.tell_fork.ensures.kids (c.tell_fork.ensures.can k.lanes.now k.rest.now c.requires.1.parent_can.can)

pub run_from-scope-tell_fork-requires-in-Err : goal.run_from-scope-tell_fork-requires-in-Err
run_from-scope-tell_fork-requires-in-Err g t c =
    let k = c.captures in let w = k.running.caller in let here = c.run_here-theirs in
    record {
      can = (
        k.lanes.now,
        k.rest.now,
        can_still k.lanes.now w (record w { pass = here.new.pass }) k.running.buffers.log refl refl here.ensures.has
            (here_floor w.set (moment w.pass k.trace) (moment here.new.pass here.new.trace) here.ensures.here)
            c.requires.1.parent_can.can,
      );
      fits = here_fits w.set (moment w.pass k.trace) (moment here.new.pass here.new.trace) here.ensures.here
          c.requires.1.parent_can.fits;
    }

pub run_from-scope-run_from-running-requires-in-Err-after_bounds : goal.run_from-scope-run_from-running-requires-in-Err-after_bounds
run_from-scope-run_from-running-requires-in-Err-after_bounds g t c κs within =
    let k = c.captures in let w = k.running.caller in let here = c.run_here-theirs in
    can_on k.lanes.now k.script.now k.child k.rest.now k.running c.tell_fork-in-Err.new.self k.trace c.requires.1.parent_can
    c.tell_fork-in-Err.ensures.kids
    (c.tell_fork-in-Err.ensures.can k.lanes.now k.rest.now
    (can_still k.lanes.now w (record w { pass = here.new.pass }) k.running.buffers.log refl refl here.ensures.has
    (here_floor w.set (moment w.pass k.trace) (moment here.new.pass here.new.trace) here.ensures.here)
    c.requires.1.parent_can.can))

pub run_from-scope-returns-in-Ok : goal.run_from-scope-returns-in-Ok
run_from-scope-returns-in-Ok g t c =
    let k = c.captures in let on = c.run_from-running.ensures in
    record {
      has = on.has;
      same = subst (λ ks. SameKids ks c.run_from-running.result.kids) c.tell_fork.ensures.kids on.same;
      of_child = search rules;
      goes = λ begun events kids m at low above gone.
          past k.lanes.now k.script.now k.child k.running k.running.caller k.trace
          (λ begun events kids m u from low gone.
          c.tell_fork.ensures.gone begun events k.rest.now kids m u from low gone)
          c.tell_fork.ensures.pass on begun events kids m at.forked.before
          (thread_took m k.running.caller k.trace k.child k.theirs at) low above gone;
    }

pub run_from-scope-returns-in-Err : goal.run_from-scope-returns-in-Err
run_from-scope-returns-in-Err g t c =
    let k = c.captures in let on = c.run_from-running-in-Err.ensures in
    let q = c.run_here-theirs.new.pass in let after = c.run_here-theirs.new.trace in
    record {
      has = on.has;
      same = subst (λ ks. SameKids ks c.run_from-running-in-Err.result.kids) c.tell_fork-in-Err.ensures.kids on.same;
      of_child = search rules;
      goes = λ begun events kids m at low above gone.
          past k.lanes.now k.script.now k.child k.running (record k.running.caller { pass = q }) after
          (λ begun events kids m u from low gone.
          c.tell_fork-in-Err.ensures.gone begun events k.rest.now kids m u from low gone)
          c.tell_fork-in-Err.ensures.pass on begun events kids m at.forked.before
          (here_took m k.running.caller k.trace k.child k.theirs at q after c.run_here-theirs.ensures.here) low above gone;
    }

-- ---- a caller's run from its start ----

pub run_family-run_from-running-requires : goal.run_family-run_from-running-requires
run_family-run_from-running-requires g t c κs within =
    let a = layout c.args.room in let opened = c.open-caller.ensures in let callers = c.args.shared.now.script.now.callers in
    let events = c.events-events.result.now in let running = c.starting-running.result in
    let kids : kids_of running ≡ a.kids =
    ap (λ ks. fork_tree_of (map layout ks.items)) c.starting-running.ensures.rest.1 ∙ sym (ap (λ (p : Layout). p.kids) opened) in
    let there : slice_get callers a.caller ≡ Some events =
    ap (slice_get callers) (ap (λ (p : Layout). p.caller) opened) ∙ c.events-events.ensures in
    let long : length (list_at callers a.caller) ≡ length events = ap length (list_is callers a.caller events there) in
    let less : load callers (kids_of running) ≡ load callers a.kids = ap (load callers) kids in
    let at : length (list_at callers a.caller) + load callers a.kids + 2 ≡ t = c.decreases in (
      (let q : length events + load callers (kids_of running) < t = omega arith in q),
      (
        within.0,
        (
          within.1,
          (
            search rules,
            (
              search rules,
              can_start c.args.shared.now.lanes.now c.args.shared.now.script.now c.args.set c.args.pass a c.open-caller.result.1 running
                  c.requires c.starting-running.ensures.caller c.starting-running.ensures.states c.starting-running.ensures.rest.0 kids
                  (ap (λ (p : Layout). p.buffers) opened) there,
            ),
          ),
        ),
      ),
    )

pub run_family-returns : goal.run_family-returns
run_family-returns g t c =
    let a = layout c.args.room in let opened = c.open-caller.ensures in let y = c.run_from-running.result in
    returned c.args.shared.now.lanes.now c.args.shared.now.script.now c.args.set c.args.pass a c.open-caller.result.1 c.starting-running.result
    c.requires c.starting-running.ensures.caller c.starting-running.ensures.states c.starting-running.ensures.rest.0
    (ap (λ ks. fork_tree_of (map layout ks.items)) c.starting-running.ensures.rest.1 ∙ sym (ap (λ (p : Layout). p.kids) opened))
    (ap (λ (p : Layout). p.buffers) opened)
    (ap (slice_get c.args.shared.now.script.now.callers) (ap (λ (p : Layout). p.caller) opened) ∙ c.events-events.ensures)
    y (layout c.with.result)
    (c.with.ensures ∙ ap (λ (n : ℕ). layout_by n y.buffers (map layout y.kids.items)) (sym (ap (λ (p : Layout). p.caller) opened)))
    c.run_from-running.ensures

-- ---- the run of a running caller to its end ----

pub run_from-returns-in_default : goal.run_from-returns-in_default
run_from-returns-in_default g t c =
    went_end c.args.shared.now.lanes.now c.args.shared.now.script.now _ c.requires c.in_default.ensures refl c.finish.ensures.set
    c.finish.ensures.has c.finish.ensures.reached c.finish.ensures.ended

pub run_from-join-requires-clause-idle : goal.run_from-join-requires-clause-idle
run_from-join-requires-clause-idle g t c =
    let r = c.scoped-running.result in let f = c.begin_fork-theirs in
    let beside : WentBeside c.args.shared.now.lanes.now c.args.shared.now.script.now c.in-Some.child c.in-Some.rest.now f.new.self f.new.trace
    f.result.0 (layout f.result.1) r.0 r.1 (layout r.2) = search rules in
    (idle_of c.args.shared.now.lanes.now c.in-Some.child r.1 beside.of_child.has, beside.of_child.has.out)

pub run_from-returns : goal.run_from-returns
run_from-returns g t c =
    let r = c.scoped-running.result in let f = c.begin_fork-theirs in
    let beside : WentBeside c.args.shared.now.lanes.now c.args.shared.now.script.now c.in-Some.child c.in-Some.rest.now f.new.self f.new.trace
    f.result.0 (layout f.result.1) r.0 r.1 (layout r.2) = search rules in
    went_fork c.args.shared.now.lanes.now c.args.shared.now.script.now c.in-Some.child f.result.1 r.2 _ c.in-Some.ensures f.ensures.at
    f.ensures.buffers f.ensures.tree f.ensures.space beside refl refl c.join.ensures.pass c.join.ensures.both
    c.push_reserved.ensures.items c.push_reserved.ensures.len c.push_reserved.ensures.capacity
