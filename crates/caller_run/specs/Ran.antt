-- The steps that a pass made between two views, in any number of its caller's events.
use Rattle.std.specs.Prelude.{◌≡◌, ℕ, ◌+◌, ◌<◌, ⊤, List, ◌++◌, length}
use Rattle.std.specs.List.{AllByRecursion}
use Rattle.lane_table.specs.declared.view.View.{View}
use Rattle.lane_table.specs.WorldRule.{at}
use Rattle.lane_table.specs.Steps.{Grows}
use Rattle.lane_table.specs.Advances.{MadeStep, looked, visited, IsMarkOf, maker, places_in, stamps_in, Climbs, Sees, floor}
use Rattle.caller_run.specs.NumberedSteps.{NumberedStep, made_steps_of}

-- if the step is a visit, the view w records it as a visit of this caller, made by this step of this event
abbrev pub Stood : View → ℕ → NumberedStep → Type 0
Stood w caller d = Standing d.made_step
  where
    Standing : MadeStep → Type 0
    Standing (looked g) = ⊤
    Standing (visited mark e) = IsMarkOf w mark (maker caller d.event d.number) e

-- the views v and w have the same `first`, the same share and the same number of lanes; each of the `splits` splits
-- added one halving
pub record SplitView (splits : ℕ) (v w : View) : Type 0 where
  pub first : w.first ≡ v.first
  pub share : w.share ≡ v.share
  pub halvings : w.halvings ≡ v.halvings + splits
  pub sized : length w.lanes ≡ length v.lanes

-- from v to w the pass of this caller made exactly these steps, and was split `splits` times
pub record RanBy (caller splits : ℕ) (v w : View) (numbered_steps : List NumberedStep) : Type 0 where
  pub same : SplitView splits v w
  pub grows : Grows v w
  pub places : (lane : ℕ) → lane < length v.lanes →
      (at lane w).places ≡ (at lane v).places ++ places_in lane (made_steps_of numbered_steps)
  pub made : (lane : ℕ) → lane < length v.lanes →
      (at lane w).made ≡ (at lane v).made + length (places_in lane (made_steps_of numbered_steps))
  pub heard : (lane : ℕ) → lane < length v.lanes → (at lane w).heard ≡ (at lane v).heard
  pub climbs : Climbs v.stamp (stamps_in (made_steps_of numbered_steps)) w.stamp
  pub sees : Sees w (floor v) (made_steps_of numbered_steps) (floor w)
  pub stood : AllByRecursion (Stood w caller) numbered_steps

-- from v to w the pass of this caller made exactly these steps, and was not split
abbrev pub Ran : ℕ → View → View → List NumberedStep → Type 0
Ran caller v w numbered_steps = RanBy caller 0 v w numbered_steps
