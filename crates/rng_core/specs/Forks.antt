-- The effect of a fork: a visit of the base records the child, and then the caller's pass is split.
use Rattle.std.specs.Prelude.{◌≡◌, ℕ, ◌+◌, List, [], ◌∷◌, ◌++◌, length}
use Rattle.key_names.specs.declared.names.Mark.{Mark}
use Rattle.key_names.specs.declared.names.Step.{Step}
use Rattle.key_names.specs.declared.names.Step.TheVariants.{Visit}
use Rattle.key_names.specs.declared.entries.BaseEntry.TheVariants.{Fork}
use Rattle.key_names.specs.Callers.Forms.{BaseOnly}
use Rattle.lane_table.specs.declared.view.View.{View}
use Rattle.lane_table.specs.declared.lanes.Pass.{Pass}
use Rattle.lane_table.specs.Steps.{halved}
use Rattle.lane_table.specs.Steps as steps
use Rattle.lane_table.specs.Calls.{view}
use Rattle.lane_table.specs.Hands.{HoldsLanes}
use Rattle.rng_core.specs.declared.setting.Setting.{Setting}
use Rattle.rng_core.specs.Traces.{Moment, knowing}
use Rattle.rng_core.specs.Makes.{Makes}
use Rattle.rng_core.specs.declared.site.Site.{Site}
use Rattle.rng_core.specs.Sites.{Same, Does, HasInHands, at}

-- after the moment `m` the pass made the visit of a fork, and the trace then had the steps `recorded`. After that, the
-- pass was split into `pass` and `child`
pub record Forked (set : Setting) (m : Moment) (recorded : List Step) (number : ℕ) (pass child : Pass) : Type 0 where
  pub before : View
  pub did : Makes (BaseOnly (Fork number)) set m (knowing before recorded)
  pub mark : Mark
  pub visit : recorded ≡ m.steps ++ Visit mark ∷ []
  pub pass_is : view pass ≡ halved before
  pub child_is : view child ≡ steps.child before

-- the caller recorded the new caller `child`, in one visit of the base
pub record TellsOf (child : ℕ) (m n : Site) : Type 0 where
  pub does : Does 1 (BaseOnly (Fork child)) m n
  pub mark : Mark
  pub visit : n.trace.now ≡ m.trace.now ++ Visit mark ∷ []

-- the caller forked a child in one visit, and `child` is the child's pass
pub record SplitsOff (number : ℕ) (child : Pass) (m n : Site) : Type 0 where
  pub same : Same m n
  pub has : HasInHands [] n
  pub child_has : HoldsLanes n.lanes.now number [] child
  pub room : length n.trace.now ≡ length m.trace.now + 1
  pub forked : Forked m.set (at m) n.trace.now number n.pass.now child
