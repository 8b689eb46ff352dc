use Rattle.std.proofs.Common.{◌≡◌, [], ◌++◌, length}
use Rattle.std.specs.Prelude.{vec_capacity}
use Rattle.lane_table.specs.Calls.{view}
use Rattle.lane_table.specs.Hands.{HoldsLanes}
use Rattle.irq_feed.specs.Samples.{first_samples}
use Rattle.irq_feed.specs.Mixing.{Mixes}
use Rattle.irq_feed.specs.Fed.{mixed_in}
use Rattle.irq_feed.proofs.worker.mix_directly.Given as goal

abbrev pub invariant-loop-index : goal.invariant-loop-index
invariant-loop-index g l = record {
  has : HoldsLanes l.intake.lanes.now l.intake.set.caller [] l.pass;
  samples : mixed_in l.mixed ≡ mixed_in l.initial.mixed ++ first_samples l.intake.feeds.now l.number l.index;
  direct : l.mixed.direct ≡ l.initial.mixed.direct;
  room : vec_capacity l.mixed.samples ≡ vec_capacity l.initial.mixed.samples;
  irqs : Mixes l.intake.set (length (mixed_in l.initial.mixed)) (first_samples l.intake.feeds.now l.number l.index)
      (view l.initial.pass) (view l.pass);
}
