-- The effect of a shuffle on a list.
use Rattle.std.specs.Prelude.{◌≡◌, ◌<◌, ◌≤◌, ◌+◌, ◌-◌, ℕ, List, [], ◌∷◌, length, slice_index, Result, Ok, Err}
use Rattle.std.specs.List.{swap}
use Rattle.std.specs.List.Sorted.{IsPermutation}
use Rattle.draw_below.specs.declared.draws.DrawSpent.{DrawSpent}
use Rattle.draw_below.specs.Draws.{Draws, Spends}

-- the list after exchanges. First the item at `last` is exchanged with the item at the first drawn place. Then the item
-- at `last - 1` is exchanged with the item at the second drawn place, and so on
abbrev pub exchanged : ℕ → List ℕ → List ℕ → List ℕ
exchanged last [] items = items
exchanged last (d ∷ ds) items = exchanged (last - 1) ds (swap items last d)

-- the numbers can be drawn for the places `last`, `last - 1` and so on: each number is at most its place
abbrev pub AreDraws : ℕ → List ℕ → Type 0
AreDraws last [] = Unit {0}
AreDraws last (d ∷ ds) = (d ≤ last) × AreDraws (last - 1) ds

-- while the source changed from `w` to `u`, the given numbers were drawn for the places `last`, `last - 1` and so on
abbrev pub DrawsEach : {W : Type 0} → (W → ℕ → W → Type 0) → ℕ → W → List ℕ → W → Type 0
DrawsEach gives last w [] u = w ≡ u
DrawsEach {W} gives last w (d ∷ ds) u =
    (v : W) × (rejected : List ℕ) × Draws gives (last + 1) w rejected d v × DrawsEach gives (last - 1) v ds u

-- a shuffle so far: for each place from the last down to some place, a number was drawn, and the items at the place and
-- at that number were exchanged
pub record Shuffles {W : Type 0} (gives : W → ℕ → W → Type 0) (before : List ℕ) (w : W) (draws : List ℕ)
    (after : List ℕ) (u : W) : Type 0 where
  pub drawn : DrawsEach gives (length before - 1) w draws u
  pub none_above : AreDraws (length before - 1) draws
  pub exchanges : after ≡ exchanged (length before - 1) draws before

-- how a shuffle ended. After success, each place but the first had a draw, and `rejected` is empty. Otherwise fewer
-- places had a draw, the next draw was spent, and `rejected` contains the words that this spent draw rejected
abbrev pub IsShuffle : {W : Type 0} → (W → ℕ → W → Type 0) → List ℕ → W → List ℕ → Result (Unit {0}) DrawSpent →
    List ℕ → W → Type 0
IsShuffle gives before w rejected (Ok done) after u =
    (draws : List ℕ) × (length draws ≡ length before - 1) × Shuffles gives before w draws after u × (rejected ≡ [])
IsShuffle {W} gives before w rejected (Err spent) after u =
    (draws : List ℕ) × (length draws < length before - 1) × (v : W) × Shuffles gives before w draws after v
    × Spends gives (length before - length draws) v rejected u

-- no two items of `items` are the same
abbrev pub AreDifferent : List ℕ → Type 0
AreDifferent items =
    (i j : ℕ) → i < length items → j < length items → slice_index items i ≡ slice_index items j → i ≡ j

-- a shuffle with exactly these draws turns `before` into `after`
abbrev pub Makes : List ℕ → List ℕ → List ℕ → Type 0
Makes before draws after = (length draws ≡ length before - 1) × AreDraws (length before - 1) draws
    × (exchanged (length before - 1) draws before ≡ after)

-- each order of different items comes from exactly one list of a shuffle's draws
abbrev pub EachOrderHasItsDraws : Type 0
EachOrderHasItsDraws = (items order : List ℕ) → AreDifferent items → IsPermutation items order →
    (draws : List ℕ) × Makes items draws order × ((others : List ℕ) → Makes items others order → others ≡ draws)
