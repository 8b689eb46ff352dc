-- The place of an item after an exchange.
use Rattle.std.proofs.Common.{◌≡◌, ◌≢◌, ◌<◌, ℕ, List, length, get_or, cond, nat_eq, refl, ap, sym, ◌∙◌, subst, eq-eqb, ⊎_elim}
use Rattle.std.proofs.lemmas.Bool.{cases_eq, ne_eqb}
use Rattle.std.proofs.lemmas.List.Edits.{swapped_from_swap}
use Rattle.std.specs.List.{swap}

-- the place of an item after the items at `a` and `b` were exchanged: `b` for `a`, `a` for `b`, any other place
-- unchanged
abbrev pub moved : ℕ → ℕ → ℕ → ℕ
moved a b i = cond (nat_eq i a) b (cond (nat_eq i b) a i)

pub moved_first : (a b : ℕ) → moved a b a ≡ b
moved_first a b = rw (eq-eqb a a refl) refl

pub moved_second : (a b : ℕ) → moved a b b ≡ a
moved_second a b =
    ⊎_elim (λ e. rw (eq-eqb b a e) e)
    (λ n. rw (ne_eqb b a n) (rw (eq-eqb b b refl) refl)) (cases_eq b a)

pub moved_other : (a b i : ℕ) → i ≢ a → i ≢ b → moved a b i ≡ i
moved_other a b i n m = rw (ne_eqb i a n) (rw (ne_eqb i b m) refl)

-- a property that holds for `a`, for `b` and for each other place holds for every place
by_place : (a b i : ℕ) (P : ℕ → Type 0) → P a → P b → (i ≢ a → i ≢ b → P i) → P i
by_place a b i P first second other =
    ⊎_elim (λ e. subst P (sym e) first) (λ n. ⊎_elim (λ e. subst P (sym e) second) (λ m. other n m) (cases_eq i b))
    (cases_eq i a)

pub moved_back : (a b i : ℕ) → moved a b (moved a b i) ≡ i
moved_back a b i =
    by_place a b i (λ k. moved a b (moved a b k) ≡ k) (ap (moved a b) (moved_first a b) ∙ moved_second a b)
    (ap (moved a b) (moved_second a b) ∙ moved_first a b)
    (λ n m. ap (moved a b) (moved_other a b i n m) ∙ moved_other a b i n m)

pub moved_below : (a b i n : ℕ) → a < n → b < n → i < n → moved a b i < n
moved_below a b i n p q r =
    by_place a b i (λ k. k < n → moved a b k < n) (λ _. subst (λ m. m < n) (sym (moved_first a b)) q)
    (λ _. subst (λ m. m < n) (sym (moved_second a b)) p)
    (λ x y h. subst (λ m. m < n) (sym (moved_other a b i x y)) h) r

pub get_moved : (xs : List ℕ) (a b i : ℕ) → a < length xs → b < length xs →
    get_or (swap xs a b) i 0 ≡ get_or xs (moved a b i) 0
get_moved xs a b i p q =
    let sides = swapped_from_swap xs (swap xs a b) a b 0 p q refl in
    by_place a b i (λ k. get_or (swap xs a b) k 0 ≡ get_or xs (moved a b k) 0)
    (sides.0 ∙ ap (λ m. get_or xs m 0) (sym (moved_first a b)))
    (sides.1 ∙ ap (λ m. get_or xs m 0) (sym (moved_second a b)))
    (λ n m. sides.2 i n m ∙ ap (λ k. get_or xs k 0) (sym (moved_other a b i n m)))
