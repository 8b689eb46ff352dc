-- A value, a number or None, that is carried along some steps.
use Rattle.std.specs.Prelude.{ℕ, ◌≡◌, ◌↔◌, ◌≤◌, ⊤, IsTrue, Option, Some, None, List, [], ◌∷◌, length, take, slice_get}
use Rattle.std.specs.List.{fold}
use Rattle.std.specs.Global.{Vec}
use Rattle.key_names.specs.declared.names.Step.{Step}
use Rattle.judge_lines.specs.declared.along.OrderWalk.{OrderWalk}
use Rattle.judge_lines.specs.declared.order.Fork.{Fork}

module _ (after : Option ℕ → Step → Option ℕ) where
  -- each of the steps is allowed after the value carried to it; the value before the first step is `carried`
  abbrev pub Along : (Option ℕ → Step → Type 0) → Option ℕ → List Step → Type 0
  Along MayFollow carried [] = ⊤
  Along MayFollow carried (step ∷ steps) = MayFollow carried step × Along MayFollow (after carried step) steps

  -- `on` is the walk `walk` after `steps`. Its value is the value of `walk` carried along `steps`. `on.follows` is true
  -- exactly if `walk.follows` is true and each of `steps` is allowed after the value carried to it
  pub record HasGone (MayFollow : Option ℕ → Step → Type 0) (walk : OrderWalk) (steps : List Step) (on : OrderWalk) : Type 0 where
    pub carried : on.carried ≡ fold after walk.carried steps
    pub follows : IsTrue on.follows ↔ IsTrue walk.follows × Along MayFollow walk.carried steps

  -- for each n up to the number of steps, `kept` has at place n the value after the first n steps
  abbrev pub AreAlong : Option ℕ → List Step → List (Option ℕ) → Type 0
  AreAlong start steps kept = (n : ℕ) → n ≤ length steps → slice_get kept n ≡ Some (fold after start (take n steps))

-- the value kept at a place of a list, or None if the list does not have the place
abbrev pub carried_in : Option (Option ℕ) → Option ℕ
carried_in None = None
carried_in (Some carried) = carried

abbrev pub kept_at : Option (Vec (Option ℕ)) → ℕ → Option ℕ
kept_at None n = None
kept_at (Some kept) n = carried_in (slice_get kept.items n)

-- the value that a child begins with: the value kept for its parent at the fork, or None if there is no fork
abbrev pub begin_in : List (Vec (Option ℕ)) → Option Fork → Option ℕ
begin_in kept None = None
begin_in kept (Some fork) = kept_at (slice_get kept fork.parent) fork.steps
