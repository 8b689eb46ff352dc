use Rattle.std.proofs.Common.{◌≡◌, ◌<◌, map, length, ap, slice_set, arith}
use Rattle.caller_run.specs.ForkTree.{fork_tree_of, emitted_by}
use Rattle.caller_run.specs.Layouts.{layout}
use Rattle.caller_run.proofs.Planning.ForkTrees.{fork_tree_pushed}
use Rattle.caller_run.proofs.Planning.Planned.{gathered_first, gathered_next, kid_has, kid_less, kids_less}
use Rattle.caller_run.proofs.forking.plans.+gather.Goals as goal

pub loop-kid-init : goal.loop-kid-init
loop-kid-init t c =
    gathered_first c.args.slots.now _ c.open-caller.result.0 c.open-caller.result.1 c.open-caller.result.2.items
    (layout c.args.room) c.open-caller.ensures (ap (slice_set c.args.slots.now c.open-caller.result.0) c.into_lines.ensures)
    c.requires

pub gather-requires : goal.gather-requires
gather-requires t c =
    let took = fork_tree_pushed c.loop-kid.kids.items c.pop.new.self.items c.in-Some.kid c.in-Some.ensures.items in
    let rest = fork_tree_of (map layout c.pop.new.self.items) in
    let less = kid_less c.loop-kid.invariant (layout c.in-Some.kid) rest took in
    let at : length (emitted_by (layout c.args.room)) ≡ t = c.decreases in (
      (let q : length (emitted_by (layout c.in-Some.kid)) < t = omega arith in q),
      kid_has c.loop-kid.invariant (layout c.in-Some.kid) rest took,
    )

pub loop-kid-smaller : goal.loop-kid-smaller
loop-kid-smaller t c =
    kids_less c.loop-kid.invariant (layout c.in-Some.kid) (fork_tree_of (map layout c.pop.new.self.items))
    (fork_tree_pushed c.loop-kid.kids.items c.pop.new.self.items c.in-Some.kid c.in-Some.ensures.items)

pub loop-kid-preserved : goal.loop-kid-preserved
loop-kid-preserved t c =
    gathered_next c.loop-kid.invariant (layout c.in-Some.kid) (fork_tree_of (map layout c.pop.new.self.items))
    (fork_tree_pushed c.loop-kid.kids.items c.pop.new.self.items c.in-Some.kid c.in-Some.ensures.items)
    c.gather.new.slots c.gather.ensures
