use Rattle.std.proofs.Common.{arith}
use Rattle.draw_below.proofs.Steps.{one_more_exchange, start, whole}
use Rattle.draw_below.proofs.shuffles.shuffle.Goals as goal

pub loop-done-init : goal.loop-done-init
loop-done-init g c = start g.W.Words.gives c.args.list.now c.args.words.now c.clear.new.self c.clear.ensures

pub loop-done-preserved : goal.loop-done-preserved
loop-done-preserved g c =
    one_more_exchange g.W.Words.gives c.args.list.now c.args.words.now c.loop-done.list c.loop-done.words
    c.loop-done.rejected c.loop-done.done c.in_ok-place.place c.below.new.rejected c.below.new.words c.swap.new.self c.loop-done-test.true
    c.loop-done.invariant c.in_ok-place.ensures.draw (c.in_ok-place.ensures.below (omega arith)) c.swap.ensures.after
    c.swap.ensures.permutation

pub returns-clause-shuffles : goal.returns-clause-shuffles
returns-clause-shuffles g c =
    whole g.W.Words.gives c.args.list.now c.args.words.now c.loop-done.list c.loop-done.words c.loop-done.rejected
    c.loop-done.done c.loop-done.invariant (omega arith)
