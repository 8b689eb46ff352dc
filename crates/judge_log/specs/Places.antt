-- Facts about each place of a list.
use Rattle.std.specs.Prelude.{ℕ, ◌≡◌, Some, List, length, slice_get}

-- P holds of each place of `list`, with the element at this place
abbrev pub AllPlaces : {E : Type 0} → (ℕ → E → Type 0) → List E → Type 0
AllPlaces {E = E} P list = (i : ℕ) (e : E) → slice_get list i ≡ Some e → P i e

-- `kept` has one item for each place of `list`, and S holds of each place with its item and its element
pub record AllKept {K E : Type 0} (S : ℕ → K → E → Type 0) (kept : List K) (list : List E) : Type 0 where
  pub count : length kept ≡ length list
  pub each : (i : ℕ) (k : K) (e : E) → slice_get kept i ≡ Some k → slice_get list i ≡ Some e → S i k e
