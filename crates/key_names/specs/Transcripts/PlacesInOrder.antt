-- PlacesConform holds for the marks of one lane, sorted by stamp, if and only if their places count up from 0 and their
-- stamps rise.
use Rattle.std.specs.Prelude.{ℕ, suc, ◌≡◌, ◌<◌, ◌≤◌, ⊤, List, [], ◌∷◌, IsPermutation}
use Rattle.std.specs.List.{AllByRecursion}
use Rattle.key_names.specs.declared.names.Mark.{Mark}
use Rattle.key_names.specs.Transcripts.IsTranscript.{PlacesConform}

-- the places count up from i, and each stamp is below those after it
abbrev pub InOrder : ℕ → List Mark → Type 0
InOrder i [] = ⊤
InOrder i (m ∷ ms) = (m.place ≡ i) × AllByRecursion (λ n. m.stamp < n.stamp) ms × InOrder (suc i) ms

-- no stamp is above a later one
abbrev pub ByStamp : List Mark → Type 0
ByStamp [] = ⊤
ByStamp (m ∷ ms) = AllByRecursion (λ n. m.stamp ≤ n.stamp) ms × ByStamp ms

-- if marks are in order, PlacesConform holds for them. If PlacesConform holds for marks that are sorted by stamp, then
-- these marks are in order
abbrev pub PlacesCountUp : Type 0
PlacesCountUp = (ms : List Mark) → (InOrder 0 ms → PlacesConform ms) × (ByStamp ms → PlacesConform ms → InOrder 0 ms)

-- whether PlacesConform holds does not depend on the order of the marks
abbrev pub PlacesInAnyOrder : Type 0
PlacesInAnyOrder = (ms ns : List Mark) → IsPermutation ms ns → PlacesConform ms → PlacesConform ns
