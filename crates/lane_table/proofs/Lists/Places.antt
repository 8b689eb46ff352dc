-- Lists by their places: properties before each place, and lists that correspond place by place.
use Rattle.std.proofs.Common.{◌≡◌, ℕ, zero, suc, ◌≤◌, ◌<◌, List, [], ◌∷◌, ◌++◌, length, take, refl, sym, ap, ◌∙◌, arith, Some, Option}
use Rattle.std.specs.Prelude.{slice_get}
use Rattle.std.specs.List.{fold, filter_map, cons_option}
use Rattle.std.proofs.lemmas.List.Sums.{fold-append}
use mathlib.Core.Option.{some, some-injective, some-ne-none}
use lib.ListN.{get_elem?}
use Rattle.key_names.specs.Lanes.LawfulList.{LawfulFrom}

-- `get_elem?` and `slice_get` give the same element at a place
pub conforms_at : {A : Type 0} (xs : List A) (i : ℕ) (x : A) → get_elem? xs i ≡ some x → slice_get xs i ≡ Some x
conforms_at [] i x is = absurd (some-ne-none x (sym is))
conforms_at (y ∷ ys) zero x is = ap Some (some-injective y x is)
conforms_at (y ∷ ys) (suc i) x is = conforms_at ys i x is

pub element_at : {A : Type 0} (xs : List A) (i : ℕ) (x : A) → slice_get xs i ≡ Some x → get_elem? xs i ≡ some x
element_at [] i x is = cc
element_at (y ∷ ys) zero x is = let same : y ≡ x = cc in ap some same
element_at (y ∷ ys) (suc i) x is = element_at ys i x is

-- each place below the length has an element
pub some_at : {A : Type 0} (xs : List A) (i : ℕ) → i < length xs → (x : A) × (slice_get xs i ≡ Some x)
some_at [] i below = absurd (omega arith)
some_at (x ∷ xs) zero below = (x, refl)
some_at (x ∷ xs) (suc i) below = some_at xs i (omega arith)

pub take_next : {A : Type 0} (xs : List A) (i : ℕ) (x : A) → slice_get xs i ≡ Some x →
    take (suc i) xs ≡ take i xs ++ x ∷ []
take_next [] i x is = cc
take_next (y ∷ ys) zero x is = let same : y ≡ x = cc in ap (λ z. z ∷ []) same
take_next (y ∷ ys) (suc i) x is = ap (λ zs. y ∷ zs) (take_next ys i x is)

pub fold_next : {S E : Type 0} (step : S → E → S) (s : S) (es : List E) (i : ℕ) (e : E) → slice_get es i ≡ Some e →
    fold step s (take (suc i) es) ≡ step (fold step s (take i es)) e
fold_next step s es i e is = ap (fold step s) (take_next es i e is) ∙ fold-append step s (take i es) (e ∷ [])

-- if `P` holds for place 0, and for each element of `xs` `P` at the element's place implies `P` at the next place, then
-- `P` holds for each place
pub at_each_place : {A : Type 0} (xs : List A) (P : ℕ → Type 0) → P 0 →
    ((i : ℕ) (x : A) → slice_get xs i ≡ Some x → P i → P (suc i)) →
    (i : ℕ) → i ≤ length xs → P i
at_each_place xs P start next zero within = start
at_each_place xs P start next (suc i) within =
    let x = some_at xs i (omega arith) in next i x.0 x.1 (at_each_place xs P start next i (omega arith))

-- if each step raises the count of a state by one, and the first count is 0, then the count before place `i` is `i`
pub counted : {S E : Type 0} (place : S → ℕ) (step : S → E → S) → ((s : S) (e : E) → place (step s e) ≡ suc (place s)) →
    (s : S) (es : List E) → place s ≡ 0 → (i : ℕ) → i ≤ length es → place (fold step s (take i es)) ≡ i
counted place step next s es none = at_each_place es (λ i. place (fold step s (take i es)) ≡ i) none
    (λ i e is now. ap place (fold_next step s es i e is) ∙ next (fold step s (take i es)) e ∙ ap suc now)

-- a list is lawful if each entry may come at its place
pub lawful_by_places : {S E : Type 0} (May : S → E → Type 0) (step : S → E → S) (s : S) (es : List E) →
    ((i : ℕ) (e : E) → slice_get es i ≡ Some e → May (fold step s (take i es)) e) → LawfulFrom May step s es
lawful_by_places May step s [] may = tt
lawful_by_places May step s (e ∷ es) may =
    (may 0 e refl, lawful_by_places May step (step s e) es (λ i. may (suc i)))

-- a list in which `h` gives a value for each element
module _ {A B : Type 0} (h : A → Option B) where
  abbrev pub GivesEach : List A → Type 0
  GivesEach xs = (i : ℕ) (x : A) → slice_get xs i ≡ Some x → (b : B) × (h x ≡ Some b)

  pub filter_map_at : (xs : List A) (i : ℕ) (x : A) (b : B) → GivesEach xs → slice_get xs i ≡ Some x → h x ≡ Some b →
      slice_get (filter_map h xs) i ≡ Some b
  filter_map_at [] i x b each is gives = cc
  filter_map_at (y ∷ ys) zero x b each is gives =
      let same : y ≡ x = cc in
      ap (λ o. slice_get (cons_option o (filter_map h ys)) 0) (ap h same ∙ gives)
  filter_map_at (y ∷ ys) (suc i) x b each is gives =
      let here = each 0 y refl in
      ap (λ o. slice_get (cons_option o (filter_map h ys)) (suc i)) here.1
      ∙ filter_map_at ys i x b (λ j. each (suc j)) is gives

  pub filter_map_length : (xs : List A) → GivesEach xs → length (filter_map h xs) ≡ length xs
  filter_map_length [] each = refl
  filter_map_length (y ∷ ys) each =
      let here = each 0 y refl in
      ap (λ o. length (cons_option o (filter_map h ys))) here.1 ∙ ap suc (filter_map_length ys (λ j. each (suc j)))
