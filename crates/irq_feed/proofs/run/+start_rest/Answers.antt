use Rattle.std.proofs.Common.{◌≡◌, ◌+◌, ◌<◌, refl, ap, arith}
use Rattle.irq_feed.proofs.Feeding.{has_pass, in_thread, drained, owed_small, owed_room, now_is, still_is}
use Rattle.irq_feed.proofs.run.+start_rest.Goals as goal

pub drain-requires-clause-room : goal.drain-requires-clause-room
drain-requires-clause-room g t c κs within =
    let all : c.args.number ≡ c.args.call.now.intake.now.feeds.now.feeders = omega arith in
    (owed_small _ _ _ _ _ _ _ c.requires.start, owed_room _ _ _ _ _ _ all c.requires.start)

pub returns-then-number-feeders-clause-drained : goal.returns-then-number-feeders-clause-drained
returns-then-number-feeders-clause-drained g t c =
    let all : c.args.number ≡ c.args.call.now.intake.now.feeds.now.feeders = omega arith in
    drained _ c.args.call.now.intake.now.feeds.now _ _ c.args.hand.now.worker c.drain.new.hand.worker c.learn.new.worker c.args.hand.now.mixed
    c.drain.new.hand.mixed _ all c.requires.start c.drain.ensures.taken c.drain.ensures.count c.drain.ensures.direct
    c.drain.ensures.room c.learn.ensures.worker.0 c.learn.ensures.worker.1 c.learn.ensures.learned.1

pub overflow_add-hand : goal.overflow_add-hand
overflow_add-hand g t c =
    let s = owed_small _ _ _ _ _ _ _ c.requires.start in let f = c.requires.start.few.2 in
    let e = c.each.ensures.each in omega arith

pub start_rest-requires-clause-start : goal.start_rest-requires-clause-start
start_rest-requires-clause-start g t c κs within =
    let m = c.args.hand.now.mixed in let h = c.requires.start in
    let near : c.args.number < c.args.call.now.intake.now.feeds.now.feeders = (let low = h.low in omega arith) in
    let few = h.few.0 in let all = m.all in
    in_thread _ c.args.call.now.intake.now.feeds.now _ _ _ c.next-theirs.new.worker m _
    (has_pass _ _ _ _ c.args.hand.now.worker c.next-theirs.new.worker m near h c.next-theirs.ensures.worker.0
    c.next-theirs.ensures.worker.1)
    refl (now_is m.direct c.args.number _ (omega arith)) (λ f low. still_is m.direct c.args.number _ f low)
    (ap (λ n. c.args.hand.now.owed + n) c.each.ensures.each)
