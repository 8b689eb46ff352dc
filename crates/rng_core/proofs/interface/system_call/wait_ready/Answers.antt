use Rattle.std.proofs.Common.{[], refl, ◌∙◌}
use Rattle.rng_core.proofs.SiteLemmas.{does_after, walked_then}
use Rattle.rng_core.proofs.interface.system_call.wait_ready.Goals as goal

pub returns-then-base_generation-ge1 : goal.returns-then-base_generation-ge1
returns-then-base_generation-ge1 g c = let i = c.loop.invariant in let a = c.enter-base.ensures in (
  c.resume.ensures.ready,
  does_after 1 _ _ _ (walked_then _ _ _ [] [] i.walked a.walked) (a.trace ∙ i.same) c.resume.ensures.does,
)

pub returns-then-is_idle : goal.returns-then-is_idle
returns-then-is_idle g c = let i = c.loop.invariant in let a = c.enter-base.ensures in (
  refl,
  does_after 1 _ _ _ (walked_then _ _ _ [] [] i.walked a.walked) (a.trace ∙ i.same) c.interrupt.ensures,
)

pub loop-preserved : goal.loop-preserved
loop-preserved g c = let i = c.loop.invariant in let a = c.enter-base.ensures in let b = c.give_back.ensures in record {
  walked = walked_then _ _ _ [] [] (walked_then _ _ _ [] [] i.walked a.walked) b.walked;
  same = b.trace ∙ a.trace ∙ i.same;
  has = b.has;
}
