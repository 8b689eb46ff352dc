-- Facts about lists and options that proofs of other crates use too.
use Rattle.std.proofs.Common.{ℕ, zero, suc, ◌≡◌, ◌+◌, ◌<◌, ◌≤◌, Bool, true, inl, inr, Some, List, [], ◌∷◌, length, map, drop, refl, ap, ◌∙◌, arith}
use Rattle.std.specs.Prelude.{find, slice_get, option_map}
use Rattle.std.specs.List.{AllByRecursion}
use Rattle.std.proofs.lemmas.Bool.{cases_Bool}
use Rattle.std.proofs.lemmas.Option.{same_Some, slice_get-map}
use Rattle.key_names.specs.Lanes.Book.{list_at}

pub found_passes : {X : Type 0} (p : X → Bool) (xs : List X) (x : X) → find p xs ≡ Some x → p x ≡ true
found_passes p [] x e = absurd cc
found_passes p (y ∷ xs) x e =
    elim (cases_Bool (p y)) [
      | inl here ↦ rw (← same_Some y x (rw here at e)) here
      | inr not ↦ found_passes p xs x (rw not at e)
    ]

pub image_at : {A B : Type 0} (f : A → B) (xs : List A) (i : ℕ) (x : A) → slice_get xs i ≡ Some x →
    slice_get (map f xs) i ≡ Some (f x)
image_at f xs i x is = slice_get-map f xs i ∙ ap (option_map f) is

pub list_is : {X : Type 0} (xss : List (List X)) (c : ℕ) (xs : List X) → slice_get xss c ≡ Some xs → list_at xss c ≡ xs
list_is [] c xs is = cc
list_is (ys ∷ xss) zero xs is = cc
list_is (ys ∷ xss) (suc c) xs is = list_is xss c xs is

-- if `xss` has no list with the number `c`, then `list_at xss c` is the empty list
pub list_beyond : {X : Type 0} (xss : List (List X)) (c : ℕ) → length xss ≤ c → list_at xss c ≡ []
list_beyond [] c le = refl
list_beyond (xs ∷ xss) zero le = absurd (omega arith)
list_beyond (xs ∷ xss) (suc c) le = list_beyond xss c (omega arith)

-- if element `i` of `xs` is `x`, then `xs` from element `i` on is `x` and the elements after it
pub found_dropped : {X : Type 0} (xs : List X) (i : ℕ) (x : X) → slice_get xs i ≡ Some x → drop i xs ≡ x ∷ drop (i + 1) xs
found_dropped [] i x is = cc
found_dropped (y ∷ xs) zero x is = ap (λ z. z ∷ xs) (same_Some y x is)
found_dropped (y ∷ xs) (suc i) x is =
    found_dropped xs i x is ∙ ap (λ n. x ∷ drop n (y ∷ xs)) (let e : suc (i + 1) ≡ suc i + 1 = omega arith in e)

pub each_list : {X : Type 0} (P : List X → Type 0) (xss : List (List X)) → ((c : ℕ) → c < length xss → P (list_at xss c)) →
    AllByRecursion P xss
each_list P [] all = tt
each_list P (xs ∷ xss) all = (all 0 (omega arith), each_list P xss (λ c low. all (suc c) (omega arith)))

pub at_list : {X : Type 0} (P : List X → Type 0) (xss : List (List X)) (c : ℕ) → c < length xss → AllByRecursion P xss →
    P (list_at xss c)
at_list P [] c low all = absurd (omega arith)
at_list P (xs ∷ xss) zero low all = all.0
at_list P (xs ∷ xss) (suc c) low all = at_list P xss c (omega arith) all.1
