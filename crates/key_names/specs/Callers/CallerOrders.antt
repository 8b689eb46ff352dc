-- A caller's order is its start (steps of its ancestors) and then its own steps. The looks of an order can be checked
-- step by step, or in parts.
use Rattle.std.specs.Prelude.{ℕ, ◌≡◌, ◌<◌, ⊤, Some, List, [], ◌∷◌, ◌++◌, length}
use Rattle.std.specs.List.{fold}
use Rattle.key_names.specs.declared.names.Step.{Step}
use Rattle.key_names.specs.Lanes.Book.{list_at}
use Rattle.key_names.specs.Callers.Calls.{Call, Parent, parent_from}
use Rattle.key_names.specs.Callers.Effects.{Effect}
use Rattle.key_names.specs.Callers.History.{ancestors_steps, inherited_steps, caller_orders, calls_steps, through_visit}
use Rattle.key_names.specs.Callers.History.{seen, seen_after, LookConforms, LooksConform}

-- the steps before caller c's own steps: the steps of its ancestors, up to the visit that forks caller c
abbrev pub start_of : List (List Call) → ℕ → List Step
start_of callers c = inherited_steps (ancestors_steps callers c) (parent_from c 0 callers)

abbrev pub OrderIsStartAndOwn : Type 0
OrderIsStartAndOwn = (callers : List (List Call)) (c : ℕ) → c < length callers →
    list_at (caller_orders callers) c ≡ start_of callers c ++ calls_steps (list_at callers c)

-- a child starts with the steps that its parent starts with, and then the parent's own steps up to and including the
-- fork's visit
abbrev pub StartIsAFront : Type 0
StartIsAFront = (callers : List (List Call)) (c : ℕ) (parent : Parent) → parent_from c 0 callers ≡ Some parent →
    parent.caller < c → start_of callers c
    ≡ start_of callers parent.caller ++ calls_steps parent.fork.before ++ through_visit parent.fork.line.steps

-- LookConforms holds for each look of the effects, if `seen` is the greatest generation seen before them
abbrev pub LooksFrom : ℕ → ℕ → List Effect → Type 0
LooksFrom reseeds seen [] = ⊤
LooksFrom reseeds seen (effect ∷ effects) = LookConforms reseeds seen effect × LooksFrom reseeds (seen_after seen effect) effects

-- LooksConform depends on the effects `before` only through one number: the greatest generation seen in `before`
abbrev pub LooksAreCounted : Type 0
LooksAreCounted = (reseeds : ℕ) (before effects : List Effect) →
    (LooksConform reseeds before effects → LooksFrom reseeds (seen before) effects)
    × (LooksFrom reseeds (seen before) effects → LooksConform reseeds before effects)

-- the looks of `front` and `back` together can be checked in two parts: first those of `front`, and then those of
-- `back`. The check of `back` starts from the greatest generation seen by the end of `front`
abbrev pub LooksInParts : Type 0
LooksInParts = (reseeds seen : ℕ) (front back : List Effect) →
    (LooksFrom reseeds seen (front ++ back) →
    LooksFrom reseeds seen front × LooksFrom reseeds (fold seen_after seen front) back)
    × (LooksFrom reseeds seen front → LooksFrom reseeds (fold seen_after seen front) back →
    LooksFrom reseeds seen (front ++ back))
