-- Which bytes of a piece a tee keeps.
use Rattle.std.proofs.Common.{◌≡◌, ℕ, List, take, min, sym, ap, ◌∙◌, arith, inl, inr}
use Rattle.std.specs.Prelude.{Result, Ok, Err, IsOk, OnOk}
use Rattle.std.proofs.lemmas.Bool.{cases_lt}
use Rattle.std.proofs.lemmas.List.{length-take, take-take, take_all}

-- taking n or `room` bytes of a piece, whichever are fewer, gives the same as taking n bytes of the piece, and then
-- `room` of these bytes
pub first_of : (piece : List ℕ) (n room : ℕ) → take (min n room) piece ≡ take room (take n piece)
first_of piece n room = elim (cases_lt room n) [
  | inl less ↦ (
      let k : min n room ≡ room = omega (arith, less) in
      ap (λ j. take j piece) k ∙ sym (take-take room n piece (omega (arith, less)))
      )
  | inr all ↦ (
      let k : min n room ≡ n = omega (arith, all) in
      ap (λ j. take j piece) k ∙ sym (take_all room (take n piece) (omega (arith, all, length-take n piece)))
      )
]

pub ok_holds : {T E : Type 0} (r : Result T E) (P : Type 0) → IsOk r → OnOk r P → P
ok_holds (Ok x) P is h = h
ok_holds (Err e) P is h = absurd cc
