-- A loop over a list keeps an item for each index. `P` holds of each index that the loop has passed, and `S` of the
-- item kept for this index.
use Rattle.std.proofs.Common.{◌≡◌, ◌<◌, ◌+◌, ℕ, zero, suc, List, [], ◌∷◌, ◌++◌, length, take, Some, None, get_or, refl, sym, subst, ap, ◌∙◌, arith, inl, inr, ◌⊎◌}
use Rattle.std.specs.Prelude.{slice_get}
use Rattle.std.specs.List.{fold}
use Rattle.std.proofs.lemmas.List.{take_more, length_push}
use Rattle.std.proofs.lemmas.List.Sums.{fold-append}
use Rattle.std.proofs.lemmas.Option.{slice_get_within, slice_get-get_or, get_or_from_slice_get}
use Rattle.key_names.specs.Lanes.LawfulList.{LawfulFrom}
use Rattle.judge_log.specs.Places.{AllPlaces, AllKept}

-- if lists `xs` and `ys` are equal, the element that a loop reads at place `i` of `xs` is also at place `i` of `ys`
pub found : {T : Type 0} (xs ys : List T) (i : ℕ) (d : T) → xs ≡ ys → i < length xs →
    slice_get ys i ≡ Some (get_or xs i d)
found xs ys i d same below =
    subst (λ zs. slice_get zs i ≡ Some (get_or xs i d)) same (slice_get-get_or xs i d below)

-- the first i + 1 entries of `list` are the first i entries, followed by the entry `e` at place i
pub take_at : {E : Type 0} (list : List E) (i : ℕ) (e : E) → slice_get list i ≡ Some e →
    take (i + 1) list ≡ take i list ++ e ∷ []
take_at list i e is =
    take_more list i e (slice_get_within list i e is)
    ∙ ap (λ x. take i list ++ x ∷ []) (get_or_from_slice_get list i e e is)

pub fold_at : {S E : Type 0} (step : S → E → S) (s : S) (list : List E) (i : ℕ) (e : E) → slice_get list i ≡ Some e →
    fold step s (take (i + 1) list) ≡ step (fold step s (take i list)) e
fold_at step s list i e is =
    ap (fold step s) (take_at list i e is) ∙ fold-append step s (take i list) (e ∷ [])

-- if `k` is appended to the list `made`, each element of the longer list is an element of `made` or `k` itself
pub push_at : {K : Type 0} (made : List K) (k x : K) (j : ℕ) → slice_get (made ++ k ∷ []) j ≡ Some x →
    (slice_get made j ≡ Some x) ⊎ ((j ≡ length made) × (x ≡ k))
push_at [] k x zero is = let same : k ≡ x = cc in inr (refl, sym same)
push_at [] k x (suc j) is = let never : None ≡ Some x = is in cc
push_at (y ∷ made) k x zero is = inl is
push_at (y ∷ made) k x (suc j) is =
    elim (push_at made k x j is) [ inl h ↦ inl h | inr h ↦ inr (ap suc h.0, h.1) ]

pub below_or_at : (j i : ℕ) → j < i + 1 → (j < i) ⊎ (j ≡ i)
below_or_at zero zero below = inr refl
below_or_at zero (suc i) below = inl (omega arith)
below_or_at (suc j) zero below = absurd (omega arith)
below_or_at (suc j) (suc i) below = elim (below_or_at j i (omega arith)) [
  | inl h ↦ inl (omega arith)
  | inr h ↦ inr (ap suc h)
]

-- if `list` and `inferred` have the same length, and `inferred` has an element at place `i`, `list` has one at `i` too
pub at_too : {E T : Type 0} (list : List E) (inferred : List T) (i : ℕ) (t : T) → length list ≡ length inferred →
    slice_get inferred i ≡ Some t → (e : E) × (slice_get list i ≡ Some e)
at_too [] [] i t same is = let never : None ≡ Some t = is in cc
at_too [] (u ∷ inferred) i t same is = cc
at_too (e ∷ list) [] i t same is = cc
at_too (e ∷ list) (u ∷ inferred) zero t same is = (e, refl)
at_too (e ∷ list) (u ∷ inferred) (suc i) t same is = let s : length list ≡ length inferred = cc in at_too list inferred i t s is

-- P holds of each of the first `i` places of `list`; S holds of each of these places with the item kept for it in
-- `made`
pub record After {K E : Type 0} (P : ℕ → E → Type 0) (S : ℕ → K → E → Type 0) (list : List E) (i : ℕ)
    (made : List K) : Type 0 where
  pub holds : (j : ℕ) (e : E) → j < i → slice_get list j ≡ Some e → P j e
  pub count : length made ≡ i
  pub each : (j : ℕ) (k : K) (e : E) → slice_get made j ≡ Some k → slice_get list j ≡ Some e → S j k e

module _ {K E : Type 0} (P : ℕ → E → Type 0) (S : ℕ → K → E → Type 0) (list : List E) where
  pub after_none : After P S list 0 []
  after_none = record {
    holds = λ j e below is. absurd (omega arith);
    count = refl;
    each = λ j k e made is. let never : None ≡ Some k = made in cc;
  }

  pub after_more : (i : ℕ) (made : List K) (k : K) (e : E) → slice_get list i ≡ Some e → After P S list i made →
      P i e → S i k e → After P S list (i + 1) (made ++ k ∷ [])
  after_more i made k e is h p s = record {
    holds = λ j x below at. elim (below_or_at j i below) [
      | inl b ↦ h.holds j x b at
      | inr same ↦ there j x same at
    ];
    count = length_push made k ∙ ap (λ n. n + 1) h.count;
    each = λ j y x pushed at. elim (push_at made k y j pushed) [
      | inl b ↦ h.each j y x b at
      | inr last ↦ made_there j y x (last.0 ∙ h.count) last.1 at
    ];
  }
    where
      same_entry : (j : ℕ) (x : E) → j ≡ i → slice_get list j ≡ Some x → e ≡ x
      same_entry j x same at =
          let f : slice_get list i ≡ Some x = subst (λ n. slice_get list n ≡ Some x) same at in
          let g : Some e ≡ Some x = sym is ∙ f in
          cc

      there : (j : ℕ) (x : E) → j ≡ i → slice_get list j ≡ Some x → P j x
      there j x same at = subst (λ n. P n x) (sym same) (subst (P i) (same_entry j x same at) p)

      made_there : (j : ℕ) (y : K) (x : E) → j ≡ i → y ≡ k → slice_get list j ≡ Some x → S j y x
      made_there j y x same is_k at =
          subst (λ n. S n y x) (sym same) (subst (λ z. S i z x) (sym is_k) (subst (S i k) (same_entry j x same at) s))

  pub after_all : (i : ℕ) (made : List K) → length list ≡ i → After P S list i made →
      AllPlaces P list × AllKept S made list
  after_all i made all h = (
    λ j e is. h.holds j e (subst (λ n. j < n) all (slice_get_within list j e is)) is,
    record { count = h.count ∙ sym all; each = h.each },
  )

-- if each entry of `list` is allowed in the state after the entries before it, `list` is lawful
pub lawful_by_place : {S E : Type 0} (May : S → E → Type 0) (step : S → E → S) (s : S) (list : List E) →
    AllPlaces (λ i e. May (fold step s (take i list)) e) list → LawfulFrom May step s list
lawful_by_place May step s [] all = tt
lawful_by_place May step s (e ∷ list) all =
    (all 0 e refl, lawful_by_place May step (step s e) list (λ i x is. all (suc i) x is))
