use Rattle.std.proofs.Common.{rules, ◌<◌}
use Rattle.draw_below.proofs.Bound.{value_below}
use Rattle.draw_below.proofs.Chains.{accepted_draw, one_more}
use Rattle.draw_below.proofs.draws.below.Goals as goal

pub returns-then-is_accepted-clause-draw : goal.returns-then-is_accepted-clause-draw
returns-then-is_accepted-clause-draw g c =
    let few : c.loop.counter < 128 = search rules in
    let small : c.next-word.result < 4294967296 = search rules in
    accepted_draw g.W.Words.gives c.args.c c.args.words.now c.loop.rejected c.loop.words c.next-word.result
    c.next-word.new.self c.loop.counter c.if-c-eq0.false c.loop.invariant few small c.next-word.ensures
    c.if-is_accepted.ensures

pub returns-then-is_accepted-clause-below : goal.returns-then-is_accepted-clause-below
returns-then-is_accepted-clause-below g c =
    let small : c.next-word.result < 4294967296 = search rules in
    λ some. value_below c.args.c c.next-word.result some small

pub loop-preserved : goal.loop-preserved
loop-preserved g c =
    one_more g.W.Words.gives c.args.c c.args.words.now c.loop.rejected c.loop.words c.next-word.result
    c.next-word.new.self c.loop.counter c.push.new.self c.if-c-eq0.false c.loop.invariant c.next-word.ensures
    c.if-is_accepted.ensures c.push.ensures
