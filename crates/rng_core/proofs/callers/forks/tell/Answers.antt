use Rattle.std.proofs.Common.{List, [], ◌∷◌, ◌++◌, ap, ◌∙◌}
use Rattle.key_names.specs.declared.names.Step.{Step}
use Rattle.key_names.specs.declared.names.Step.TheVariants.{Visit}
use Rattle.lane_table.proofs.Calls.Lent.{lent}
use Rattle.rng_core.proofs.SiteLemmas.{does_base}
use Rattle.rng_core.proofs.callers.forks.tell.Goals as goal

pub visit_base-requires-clause-makes : goal.visit_base-requires-clause-makes
visit_base-requires-clause-makes g c = c.up.ensures _
    (lent _ _ _ _ c.state_mut.ensures.value c.enter-base.ensures.holds.value)

pub returns : goal.returns
returns g c = let v = c.visit_base.ensures.visited in record {
  does = does_base _ _ _ _ _ _ c.enter-base.ensures c.visit_base.ensures;
  mark = v.mark;
  visit = v.recorded.trace ∙ ap (λ (l : List Step). l ++ Visit v.mark ∷ []) c.enter-base.ensures.trace;
}
