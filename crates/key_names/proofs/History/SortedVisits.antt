-- Let each number of a list be below the next. Then any sorted list with the same elements is equal to this list.
use Rattle.std.proofs.Common.{◌≡◌, ◌≢◌, ℕ, suc, ◌<◌, ◌≤◌, Bool, cond, List, [], ◌∷◌, ◌⊎◌, inl, inr, refl, sym, subst}
use Rattle.std.proofs.Common.{ap, ◌∙◌, arith}
use Rattle.std.specs.Prelude.{⊤, count_by, ◌==◌}
use Rattle.std.specs.List.{AllByRecursion}
use Rattle.std.proofs.lemmas.List.Sums.{sum_by-cons}
use Rattle.std.proofs.lemmas.Bool.Decides.{eqb_tells}

abbrev pub one_if : Bool → ℕ
one_if b = cond b 1 0

abbrev pub IsIn : {X : Type 0} → X → List X → Type 0
IsIn x [] = ⊥
IsIn x (y ∷ ys) = (y ≡ x) ⊎ IsIn x ys

module _ {X : Type 0} (number : X → ℕ) where
  -- `Rising`: each number is below all later ones. `Sorted`: no number is above a later one
  abbrev pub Rising : List X → Type 0
  Rising [] = ⊤
  Rising (x ∷ xs) = AllByRecursion (λ y. number x < number y) xs × Rising xs

  abbrev pub Sorted : List X → Type 0
  Sorted [] = ⊤
  Sorted (x ∷ xs) = AllByRecursion (λ y. number x ≤ number y) xs × Sorted xs

  -- how many elements of the list have the number k
  abbrev pub count : ℕ → List X → ℕ
  count k xs = count_by (λ x. number x == k) xs

  -- if `x` has the number `k`, then `count k (x ∷ xs)` is one more than `count k xs`; otherwise the two counts are
  -- equal
  counted : (k : ℕ) (x : X) (xs : List X) → ((number x ≡ k) × (count k (x ∷ xs) ≡ suc (count k xs)))
      ⊎ ((number x ≢ k) × (count k (x ∷ xs) ≡ count k xs))
  counted k x xs =
      let all = sum_by-cons (λ y. one_if (number y == k)) x xs in elim (eqb_tells (number x) k) [
        | inl same ↦ inl (same.1, let one : one_if (number x == k) ≡ 1 = ap one_if same.0 in omega arith)
        | inr other ↦ inr (other.1, let none : one_if (number x == k) ≡ 0 = ap one_if other.0 in omega arith)
      ]

  none_above : (k : ℕ) (xs : List X) → AllByRecursion (λ y. k < number y) xs → count k xs ≡ 0
  none_above k [] above = refl
  none_above k (x ∷ xs) above = let lt = above.0 in elim (counted k x xs) [
    | inl same ↦ absurd (let is = same.0 in omega arith)
    | inr other ↦ other.1 ∙ none_above k xs above.1
  ]

  -- if all numbers are at least `low`, and some element has the number k, then `low` is at most k
  bound_le : (low k : ℕ) (xs : List X) → AllByRecursion (λ y. low ≤ number y) xs → 1 ≤ count k xs → low ≤ k
  bound_le low k [] bound some = absurd (omega arith)
  bound_le low k (x ∷ xs) bound some = elim (counted k x xs) [
    | inl same ↦ (let is = same.0 in let le = bound.0 in omega arith)
    | inr other ↦ bound_le low k xs bound.1 (let is = other.1 in omega arith)
  ]

  -- if no element has the number k and none is below k, all are above k
  all_above : (k : ℕ) (xs : List X) → AllByRecursion (λ y. k ≤ number y) xs → count k xs ≡ 0 →
      AllByRecursion (λ y. k < number y) xs
  all_above k [] bound none = tt
  all_above k (x ∷ xs) bound none = let le = bound.0 in elim (counted k x xs) [
    | inl same ↦ absurd (let is = same.1 in omega arith)
    | inr other ↦ (let ne = other.0 in omega arith, all_above k xs bound.1 (sym other.1 ∙ none))
  ]

  in_above : (k : ℕ) (y : X) (xs : List X) → AllByRecursion (λ z. k < number z) xs → IsIn y xs → k < number y
  in_above k y [] above here = absurd here
  in_above k y (x ∷ xs) above (inl is) = let lt = above.0 in let same = ap number is in omega arith
  in_above k y (x ∷ xs) above (inr here) = in_above k y xs above.1 here

  in_rest : (x y : X) (xs : List X) → number x < number y → IsIn y (x ∷ xs) → IsIn y xs
  in_rest x y xs lt (inl is) = let same = ap number is in absurd (omega arith)
  in_rest x y xs lt (inr here) = here

  all_in_rest : (x : X) (xs ys : List X) → AllByRecursion (λ y. number x < number y) ys →
      AllByRecursion (λ y. IsIn y (x ∷ xs)) ys → AllByRecursion (λ y. IsIn y xs) ys
  all_in_rest x xs [] above all = tt
  all_in_rest x xs (y ∷ ys) above all = (in_rest x y xs above.0 all.0, all_in_rest x xs ys above.1 all.1)

  -- let `x ∷ xs` rise, and let `y ∷ ys` be sorted. If `y` is in `x ∷ xs`, and the number of `x` occurs equally often in
  -- both lists, then `x` is `y`
  same_first : (x y : X) (xs ys : List X) → Rising (x ∷ xs) → Sorted (y ∷ ys) →
      count (number x) (x ∷ xs) ≡ count (number x) (y ∷ ys) → IsIn y (x ∷ xs) → x ≡ y
  same_first x y xs ys rising sorted counts (inl is) = is
  same_first x y xs ys rising sorted counts (inr later) =
      let lt = in_above (number x) y xs rising.0 later in
      let own : 1 ≤ count (number x) (x ∷ xs) = elim (counted (number x) x xs) [
        | inl same ↦ (let is = same.1 in omega arith)
        | inr other ↦ absurd (other.0 refl)
      ] in
      let le : number y ≤ number x = bound_le (number y) (number x) (y ∷ ys)
      ((let same : number y ≡ number y = refl in omega arith), sorted.0) (omega arith) in
      absurd (omega arith)

  rest_counts : (k : ℕ) (x : X) (xs ys : List X) → count k (x ∷ xs) ≡ count k (x ∷ ys) → count k xs ≡ count k ys
  rest_counts k x xs ys is =
      let front = sum_by-cons (λ y. one_if (number y == k)) x xs in
      let other = sum_by-cons (λ y. one_if (number y == k)) x ys in omega arith

  pub sorted_is : (xs ys : List X) → Rising xs → Sorted ys → ((k : ℕ) → count k xs ≡ count k ys) →
      AllByRecursion (λ y. IsIn y xs) ys → xs ≡ ys
  sorted_is [] [] rising sorted counts all = refl
  sorted_is [] (y ∷ ys) rising sorted counts all = absurd all.0
  sorted_is (x ∷ xs) [] rising sorted counts all = absurd (elim (counted (number x) x xs) [
    | inl same ↦ (let is = same.1 in let none = counts (number x) in omega arith)
    | inr other ↦ other.0 refl
  ])
  sorted_is (x ∷ xs) (y ∷ ys) rising sorted counts all =
      let is : x ≡ y = same_first x y xs ys rising sorted (counts (number x)) all.0 in
      let P : X → Type 0 = λ z. AllByRecursion (λ w. number z ≤ number w) ys in
      let left : (k : ℕ) → count k xs ≡ count k ys = (λ k. rest_counts k x xs ys
      (counts k ∙ ap (λ z. count k (z ∷ ys)) (sym is))) in
      let above = all_above (number x) ys (subst P (sym is) sorted.0)
      (sym (left (number x)) ∙ none_above (number x) xs rising.0) in
      ap (λ z. z ∷ xs) is
      ∙ ap (λ zs. y ∷ zs) (sorted_is xs ys rising.1 sorted.1 left (all_in_rest x xs ys above all.1))
