use Rattle.lane_table.specs.Calls.{view}
use Rattle.lane_table.specs.declared.view.View.{View}
use Rattle.irq_feed.specs.Mixing.{Mixes}
use Rattle.irq_feed.specs.Fed.{CanMix, Front, mixed_in}
use Rattle.irq_feed.proofs.run.mix_rest.Given as goal

abbrev pub invariant-loop-number : goal.invariant-loop-number
invariant-loop-number g l = record {
  can : CanMix l.intake.lanes.now l.intake.set l.pass;
  front : Front l.intake.feeds.now l.number (mixed_in l.initial.mixed) l.mixed;
  irqs : (v : View) → Mixes l.intake.set 0 (mixed_in l.initial.mixed) v (view l.initial.pass)
      → Mixes l.intake.set 0 (mixed_in l.mixed) v (view l.pass);
}
