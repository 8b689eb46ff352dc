use Rattle.std.proofs.Common.{rules, ◌≡◌, ◌<◌, ◌-◌, ◌++◌, ◌∷◌, [], length, map, subst, arith}
use Rattle.key_names.specs.declared.events.Event.TheVariants.{Fork}
use Rattle.caller_run.specs.ForkTree.{fork_tree_of}
use Rattle.caller_run.specs.Layouts.{layout}
use Rattle.caller_run.proofs.Planning.Planned.{PreparedSoFar, prepared_none_yet, prepared_push, child_there, few_here, no_elements, prepared}
use Rattle.caller_run.proofs.forking.rooms.Room.+prepare.Goals as goal

pub for_events-requires : goal.for_events-requires
for_events-requires t c =
    few_here c.args.script.now c.requires.well c.args.caller c.events-events.result.now c.events-events.ensures

pub loop-event-init : goal.loop-event-init
loop-event-init t c =
    prepared_none_yet c.args.script.now.callers c.args.caller c.events-events.result.now c.new-kids.result.items
    c.events-events.ensures c.new-kids.ensures.items

pub prepare-requires : goal.prepare-requires
prepare-requires t c =
    let last : c.loop-event.rest.now ≡ c.in-Some.front.now ++ Fork c.in-Fork.child ∷ [] = search rules in
    let there = child_there c.args.script.now c.requires.well c.args.caller c.in-Fork.child
    c.in-Some.front.now c.events-events.ensures
    c.loop-event.invariant last in
    let at : length c.args.script.now.callers - c.args.caller ≡ t = c.decreases in
    let low = there.0 in let high = there.1 in
    ((let q : length c.args.script.now.callers - c.in-Fork.child < t = omega arith in q), (c.requires.well, there.1))

pub loop-event-preserved-in_ok-push : goal.loop-event-preserved-in_ok-push
loop-event-preserved-in_ok-push t c =
    let last : c.loop-event.rest.now ≡ c.in-Some.front.now ++ Fork c.in-Fork.child ∷ [] = search rules in
    prepared_push c.args.script.now.callers c.args.caller c.loop-event.kids.items c.push.new.self.items c.in_ok-kid.kid
    c.in-Fork.child c.loop-event.invariant last c.in_ok-kid.ensures c.in_ok-push.ensures.items

pub returns : goal.returns
returns t c =
    let empty : length c.loop-event.rest.now ≡ 0 = search rules in
    let none = no_elements c.loop-event.rest.now empty in
    prepared c.args.script.now.callers c.args.caller c.events-events.result.now c.in_ok-buffers.buffers
    c.loop-event.kids.items _ c.events-events.ensures c.requires.there c.in_ok-buffers.ensures
    (subst (λ l. PreparedSoFar c.args.script.now.callers c.args.caller l (fork_tree_of (map layout c.loop-event.kids.items)))
    none c.loop-event.invariant)
    c.with.ensures
