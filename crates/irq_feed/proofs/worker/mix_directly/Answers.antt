use Rattle.std.proofs.Common.{◌∙◌, arith}
use Rattle.irq_feed.proofs.Mixings.{direct_more, direct_room}
use Rattle.irq_feed.proofs.worker.mix_directly.Goals as goal

pub mix-requires-clause-room : goal.mix-requires-clause-room
mix-requires-clause-room g c =
    direct_room c.args.intake.now.feeds.now c.args.number c.loop-index.index _ _ _ _ c.loop-index.invariant.samples
    (let e = c.each-each.ensures.each in omega arith) c.requires.room.0 c.requires.room.1 c.loop-index.invariant.room

pub loop-index-preserved : goal.loop-index-preserved
loop-index-preserved g c =
    let before = c.loop-index.invariant in
    let more = direct_more _ c.args.intake.now.feeds.now _ _ _ _ _ _ _ _ _ before.samples c.mix.ensures.mixed
    c.sample-sample.ensures before.irqs c.mix.ensures.irq in
    record {
      has = c.mix.ensures.has;
      samples = more.0;
      direct = c.mix.ensures.direct ∙ before.direct;
      room = c.mix.ensures.room ∙ before.room;
      irqs = more.1;
    }
