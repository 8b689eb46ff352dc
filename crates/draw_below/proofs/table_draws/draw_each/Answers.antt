use Rattle.std.proofs.Common.{List, ℕ, rules, sym, subst, ◌≡◌}
use Rattle.draw_below.proofs.Folds.{IsAnswered, all_answered, none_answered, one_answered, then_spent}
use Rattle.draw_below.proofs.table_draws.draw_each.Goals as goal

pub loop-init : goal.loop-init
loop-init g c =
    subst (λ (xs : List ℕ). IsAnswered g.W.Words.gives c.args.c c.args.words.now c.args.words.now 0 xs)
    (sym c.new-answers.ensures) (none_answered g.W.Words.gives c.args.c c.args.words.now)

pub loop-preserved : goal.loop-preserved
loop-preserved g c =
    one_answered g.W.Words.gives c.args.c c.args.words.now c.loop.words c.below.new.words c.loop.counter
    c.loop.answers.items c.below.new.rejected c.in-Ok.answer c.push.new.self.items c.loop.invariant
    c.in-Ok.ensures.draw c.push.ensures.items

pub returns-in-Err : goal.returns-in-Err
returns-in-Err g c =
    then_spent g.W.Words.gives c.args.c c.args.words.now c.loop.words c.below.new.words c.loop.counter c.args.count
    c.loop.answers.items c.below.new.rejected c.loop-test.true c.loop.invariant c.in-Err.ensures.draw

pub returns : goal.returns
returns g c =
    let all : c.loop.counter ≡ c.args.count = search rules in
    all_answered g.W.Words.gives c.args.c c.args.words.now c.loop.words c.loop.counter c.args.count
    c.loop.answers.items all c.loop.invariant
