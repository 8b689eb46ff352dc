-- A loop that goes through a list from its front. The output for the elements done, and then the output for the rest,
-- is the whole output.
use Rattle.std.specs.Prelude.{slice_get}
use Rattle.std.proofs.Common.{Some, zero, suc, ◌≡◌, ℕ, ◌+◌, ◌<◌, ◌≤◌, List, [], ◌∷◌, ◌++◌, length, get_or, take, drop, map, sym, ap, ◌∙◌, append_assoc}
use Rattle.std.proofs.lemmas.List.{map-append, take_more, drop_more, at_drop_all, append-nil}
use Rattle.std.proofs.lemmas.Option.{same_Some}

-- suppose that `done` and the first i elements of `bs` have the same image under `f` and `g`. If the images of `a` and
-- of the next element of `bs` are equal too, `a` can be added to `done`
pub map_more : {A B C : Type 0} (f : A → C) (g : B → C) (done : List A) (bs : List B) (i : ℕ) (a : A) (d : B) →
    map f done ≡ map g (take i bs) → i < length bs → f a ≡ g (get_or bs i d) →
    map f (done ++ a ∷ []) ≡ map g (take (i + 1) bs)
map_more f g done bs i a d e low same =
    map-append f done (a ∷ []) ∙ (λ j. e j ++ same j ∷ []) ∙ sym (map-append g (take i bs) (get_or bs i d ∷ []))
    ∙ ap (map g) (sym (take_more bs i d low))

pub dropped : {X : Type 0} (xs : List X) (i : ℕ) (x : X) → i < length xs → x ≡ get_or xs i x →
    drop i xs ≡ x ∷ drop (i + 1) xs
dropped xs i x low is = drop_more xs i x low ∙ ap (λ y. y ∷ drop (i + 1) xs) (sym is)

pub found_or : {X : Type 0} (xs : List X) (i : ℕ) (x : X) → slice_get xs i ≡ Some x → get_or xs i x ≡ x
found_or [] i x is = cc
found_or (y ∷ xs) zero x is = same_Some y x is
found_or (y ∷ xs) (suc i) x is = found_or xs i x is

-- `done` is the output for the elements before element i, and `piece` is the output for element i. If `piece` is added
-- to `done`, the whole output is `done` and then the output for the elements after i
pub goes_on : {X Y : Type 0} (F G : List X → List Y) (xs : List X) (i : ℕ) (x : X) (done piece whole : List Y) →
    i < length xs → x ≡ get_or xs i x → F (x ∷ drop (i + 1) xs) ≡ piece ++ G (drop (i + 1) xs) →
    done ++ F (drop i xs) ≡ whole → (done ++ piece) ++ G (drop (i + 1) xs) ≡ whole
goes_on F G xs i x done piece whole low is splits so_far =
    append_assoc done piece (G (drop (i + 1) xs))
    ∙ ap (λ r. done ++ r) (sym splits ∙ ap F (sym (dropped xs i x low is))) ∙ so_far

-- if no element is left, `done`, the output for all elements, is the whole output
pub all_done : {X Y : Type 0} (F : List X → List Y) (xs : List X) (i : ℕ) (done whole : List Y) → length xs ≤ i →
    F [] ≡ [] → done ++ F (drop i xs) ≡ whole → done ≡ whole
all_done F xs i done whole high none so_far =
    sym (append-nil done) ∙ ap (λ r. done ++ r) (sym none ∙ sym (at_drop_all F xs i high)) ∙ so_far

pub map_last : {A B : Type 0} (f : A → B) (xs : List A) (a : A) → map f (xs ++ a ∷ []) ≡ map f xs ++ f a ∷ []
map_last f xs a = map-append f xs (a ∷ [])
