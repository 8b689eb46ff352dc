-- The tree of a script's callers.
use Rattle.std.specs.Prelude.{◌≡◌, ℕ, List, [], ◌∷◌, ◌++◌}
use Rattle.key_names.specs.declared.events.Event.{Event}
use Rattle.key_names.specs.declared.events.Event.TheVariants.{Fork}
use Rattle.key_names.specs.Lanes.Book.{list_at}

-- a list of callers, each with the tree of its descendants
pub data Forest : Type 0 where
  no_more : Forest
  more : (caller : ℕ) (kids rest : Forest) → Forest

-- the callers that an event, or a list of events, forks, in the order of the forks
abbrev pub forked_by : Event → List ℕ
forked_by (Fork child) = child ∷ []
forked_by _ = []

abbrev pub forks : List Event → List ℕ
forks [] = []
forks (e ∷ es) = forked_by e ++ forks es

-- the numbers of all callers of a tree
abbrev pub numbers : Forest → List ℕ
numbers no_more = []
numbers (more c kids rest) = c ∷ (numbers kids ++ numbers rest)

-- the roots of the tree are these callers, in this order; below each caller are all callers that it forks
module _ (callers : List (List Event)) where
  abbrev pub AreForked : Forest → List ℕ → Type 0
  AreForked no_more [] = Unit {0}
  AreForked no_more (x ∷ xs) = ⊥
  AreForked (more c kids rest) [] = ⊥
  AreForked (more c kids rest) (x ∷ xs) = (c ≡ x) × AreForked kids (forks (list_at callers c)) × AreForked rest xs
