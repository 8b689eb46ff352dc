use Rattle.std.proofs.Common.{◌≡◌, []}
use Rattle.rng_core.specs.Sites.{HasInHands, Walked}
use Rattle.rng_core.proofs.interface.system_call.wait_ready.Given as goal

abbrev pub invariant-loop : goal.invariant-loop
invariant-loop g l = record {
  walked : Walked [] l.initial.site l.site;
  same : l.site.trace.now ≡ l.initial.site.trace.now;
  has : HasInHands [] l.site;
}
