use Rattle.std.proofs.Common.{◌+◌, true, false, true≢false, refl, sym, ap, ◌∙◌, eq-eqb, ne_eqb, add-zero, arith}
use Rattle.irq_feed.proofs.Feeding.{taken_back, owed_small, now_is, still_is}
use Rattle.irq_feed.proofs.run.take_back.Goals as goal

pub overflow_add-hand : goal.overflow_add-hand
overflow_add-hand g c =
    let s = owed_small _ _ _ _ _ _ _ c.requires.start.1 in let f = c.requires.start.1.few.2 in
    let e = c.each.ensures.each in omega arith

pub returns-then-not-direct-clause-start : goal.returns-then-not-direct-clause-start
returns-then-not-direct-clause-start g c =
    let m = c.args.hand.now.mixed in let h = c.requires.start in
    let near = h.0 in let few = h.1.few.0 in let all = m.all in
    taken_back _ _ _ _ _ _ c.args.hand.now.worker c.take_in.new.worker c.args.fed.pass m _ false h refl (now_is m.direct c.args.number _ (omega arith) ∙ ne_eqb _ 0 c.if-not-direct.true)
    (λ f low. still_is m.direct c.args.number _ f low) c.take_in.ensures.0 c.take_in.ensures.1 c.requires.fed.1
    (λ e. absurd (true≢false (sym e))) (ap (λ n. c.args.hand.now.owed + n) c.each.ensures.each)

pub returns-else-not-direct-clause-start : goal.returns-else-not-direct-clause-start
returns-else-not-direct-clause-start g c =
    let m = c.args.hand.now.mixed in let h = c.requires.start in
    let near = h.0 in let few = h.1.few.0 in let all = m.all in
    taken_back _ _ _ _ _ _ c.args.hand.now.worker c.take_in.new.worker c.args.fed.pass m _ true h refl (now_is m.direct c.args.number _ (omega arith) ∙ eq-eqb _ 0 c.if-not-direct.false)
    (λ f low. still_is m.direct c.args.number _ f low) c.take_in.ensures.0 c.take_in.ensures.1 c.requires.fed.1
    (λ e. c.if-not-direct.false) (sym (add-zero c.args.hand.now.owed))
