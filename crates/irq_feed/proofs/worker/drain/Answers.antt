use Rattle.std.proofs.Common.{ap, length, ◌∙◌, arith, length-append}
use Rattle.irq_feed.specs.declared.samples.Sample.{Sample}
use Rattle.irq_feed.proofs.Mixings.{one_more}
use Rattle.irq_feed.proofs.worker.drain.Goals as goal

pub loop-taken-preserved : goal.loop-taken-preserved
loop-taken-preserved g c =
    let before = c.loop-taken.invariant in
    let more = one_more _ _ _ _ _ _ _ _ _ _ c.requires.worker.1 before.taken c.pop-sample.ensures.popped
    c.mix.ensures.mixed before.irqs c.mix.ensures.irq in
    record {
      has = c.mix.ensures.has;
      worker = c.pop-sample.ensures.worker;
      taken = more.0;
      count = omega (arith, ap length c.mix.ensures.mixed, length-append {A = Sample}, before.count);
      direct = c.mix.ensures.direct ∙ before.direct;
      room = c.mix.ensures.room ∙ before.room;
      irqs = more.1;
    }
