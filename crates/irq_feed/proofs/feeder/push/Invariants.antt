use Rattle.std.proofs.Common.{◌≡◌}
use Rattle.irq_feed.specs.Passes.{known, IsPassOf}
use Rattle.irq_feed.proofs.feeder.push.Given as goal

abbrev pub invariant-loop : goal.invariant-loop
invariant-loop g l = IsPassOf l.queue l.feeder × (known l.feeder ≡ known l.initial.feeder)
