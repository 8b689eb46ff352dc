use Rattle.std.proofs.Common.{◌≡◌, [], length}
use Rattle.std.specs.Prelude.{vec_capacity}
use Rattle.lane_table.specs.Calls.{view}
use Rattle.lane_table.specs.Hands.{HoldsLanes}
use Rattle.irq_feed.specs.Rule.{with_taken}
use Rattle.irq_feed.specs.Passes.{known, IsPassOf}
use Rattle.irq_feed.specs.Mixing.{Mixes}
use Rattle.irq_feed.specs.Fed.{mixed_in}
use Rattle.irq_feed.proofs.worker.drain.Given as goal

abbrev pub invariant-loop-taken : goal.invariant-loop-taken
invariant-loop-taken g l = record {
  has : HoldsLanes l.intake.lanes.now l.intake.set.caller [] l.pass;
  worker : IsPassOf l.intake.queue.now l.hand.worker;
  taken : known l.hand.worker ≡ with_taken (known l.initial.hand.worker) (mixed_in l.hand.mixed);
  count : length (mixed_in l.hand.mixed) ≡ l._taken;
  direct : l.hand.mixed.direct ≡ l.initial.hand.mixed.direct;
  room : vec_capacity l.hand.mixed.samples ≡ vec_capacity l.initial.hand.mixed.samples;
  irqs : Mixes l.intake.set 0 (mixed_in l.hand.mixed) (view l.initial.pass) (view l.pass);
}
