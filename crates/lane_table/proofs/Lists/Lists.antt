-- Lists by `get_elem?`, and sums over them.
use Rattle.std.proofs.Common.{◌≡◌, ℕ, zero, suc, ◌+◌, ◌<◌, ◌≤◌, ◌≢◌, ◌⊎◌, List, [], ◌∷◌, ◌++◌, map, length, get_or, set, sym, refl, ap, ◌∙◌, subst, inl, inr, arith, ⊎_elim, Bool, true, false}
use Rattle.std.specs.List.{sum_by}
use Rattle.std.proofs.lemmas.List.Sums.{sum_by-set, sum_by-cons}
use mathlib.Core.Option.{some, some-injective, some-ne-none}
use mathlib.Core.Logic.{dite}
use native.Mathlib.Decide.{ℕ_discrete}
use lib.ListN.{get_elem?}
use Rattle.std.proofs.lemmas.List.{get_or-set_other}

-- if `P` follows when a test is true, and also when the test is false, `P` holds. Each case may use the test's value
pub bool_cases : (b : Bool) (P : Bool → Type 0) → (b ≡ true → P true) → (b ≡ false → P false) → P b
bool_cases true P t f = t refl
bool_cases false P t f = f refl

module _ {A : Type 0} where
  pub at_below : (l : List A) (i : ℕ) (a : A) → get_elem? l i ≡ some a → i < length l
  at_below [] i a e = absurd (some-ne-none a (sym e))
  at_below (x ∷ xs) zero a e = omega arith
  at_below (x ∷ xs) (suc i) a e = let h = at_below xs i a e in omega arith

  pub at_or : (l : List A) (i : ℕ) (a d : A) → get_elem? l i ≡ some a → get_or l i d ≡ a
  at_or [] i a d e = absurd (some-ne-none a (sym e))
  at_or (x ∷ xs) zero a d e = some-injective x a e
  at_or (x ∷ xs) (suc i) a d e = at_or xs i a d e

  pub sum_at_set : (f : A → ℕ) (l : List A) (i : ℕ) (v w : A) → get_elem? l i ≡ some v →
      sum_by f (set l i w) + f v ≡ sum_by f l + f w
  sum_at_set f l i v w e = subst (λ (x : A). sum_by f (set l i w) + f x ≡ sum_by f l + f w) (at_or l i v v e)
      (sum_by-set f l i w v (at_below l i v e))

module _ {A B : Type 0} where
  pub sum_by-map : (f : B → ℕ) (g : A → B) (l : List A) → sum_by f (map g l) ≡ sum_by (λ x. f (g x)) l
  sum_by-map f g [] = refl
  sum_by-map f g (x ∷ xs) = let h = sum_by-map f g xs in
      omega (arith, sum_by-cons f (g x) (map g xs), sum_by-cons (λ (y : A). f (g y)) x xs)

  pub at_unmap : (g : A → B) (l : List A) (j : ℕ) (b : B) → get_elem? (map g l) j ≡ some b →
      (a : A) × (get_elem? l j ≡ some a) × (g a ≡ b)
  at_unmap g [] j b e = absurd (some-ne-none b (sym e))
  at_unmap g (x ∷ xs) zero b e = (x, refl, some-injective (g x) b e)
  at_unmap g (x ∷ xs) (suc j) b e = at_unmap g xs j b e

module _ {A : Type 0} (f : A → ℕ) where
  one_below : (l : List A) (j : ℕ) (u : A) → get_elem? l j ≡ some u → f u ≤ sum_by f l
  one_below [] j u e = absurd (some-ne-none u (sym e))
  one_below (x ∷ xs) zero u e = let h = ap f (some-injective x u e) in omega (arith, sum_by-cons f x xs)
  one_below (x ∷ xs) (suc j) u e = let h = one_below xs j u e in omega (arith, sum_by-cons f x xs)

  -- the values of `f` at two different places add up to at most the sum of `f` over the list
  pub two_below : (l : List A) (i j : ℕ) (v u : A) → j ≢ i → get_elem? l i ≡ some v → get_elem? l j ≡ some u →
      f v + f u ≤ sum_by f l
  two_below [] i j v u ne a b = absurd (some-ne-none v (sym a))
  two_below (x ∷ xs) zero zero v u ne a b = absurd (ne refl)
  two_below (x ∷ xs) zero (suc j) v u ne a b = let h = one_below xs j u b in let e = ap f (some-injective x v a) in
      omega (arith, sum_by-cons f x xs)
  two_below (x ∷ xs) (suc i) zero v u ne a b = let h = one_below xs i v a in let e = ap f (some-injective x u b) in
      omega (arith, sum_by-cons f x xs)
  two_below (x ∷ xs) (suc i) (suc j) v u ne a b = let h = two_below xs i j v u (λ e. ne (ap suc e)) a b in
      omega (arith, sum_by-cons f x xs)

  pub all_zero : (l : List A) → ((j : ℕ) (u : A) → get_elem? l j ≡ some u → f u ≡ 0) → sum_by f l ≡ 0
  all_zero [] h = refl
  all_zero (x ∷ xs) h = let a = h 0 x refl in let b = all_zero xs (λ j u e. h (suc j) u e) in
      omega (arith, sum_by-cons f x xs)

  -- if `f` is 0 at all other places, the sum of `f` over the list is its value at `i`
  pub only_one : (l : List A) (i : ℕ) (v : A) → get_elem? l i ≡ some v →
      ((j : ℕ) (u : A) → j ≢ i → get_elem? l j ≡ some u → f u ≡ 0) → sum_by f l ≡ f v
  only_one [] i v e h = absurd (some-ne-none v (sym e))
  only_one (x ∷ xs) zero v e h = let a = ap f (some-injective x v e) in let b =
      all_zero xs (λ j u e'. h (suc j) u (λ z. omega arith) e') in omega (arith, sum_by-cons f x xs)
  only_one (x ∷ xs) (suc i) v e h = let a = h 0 x (λ z. omega arith) refl in let b =
      only_one xs i v e (λ j u ne e'. h (suc j) u (λ z. ne (omega arith)) e') in omega (arith, sum_by-cons f x xs)

module _ {A : Type 0} where
  pub at_push : (l : List A) (x y : A) (b : ℕ) → get_elem? (l ++ x ∷ []) b ≡ some y →
      (get_elem? l b ≡ some y) ⊎ ((b ≡ length l) × (x ≡ y))
  at_push [] x y zero e = inr (refl, some-injective x y e)
  at_push [] x y (suc b) e = absurd (some-ne-none y (sym e))
  at_push (z ∷ zs) x y zero e = inl e
  at_push (z ∷ zs) x y (suc b) e = ⊎_elim (λ h. inl h) (λ (h : (b ≡ length zs) × (x ≡ y)). inr (ap suc h.0, h.1))
      (at_push zs x y b e)

  pub at_front : (l m : List A) (p : ℕ) → p < length l → get_elem? (l ++ m) p ≡ get_elem? l p
  at_front [] m p h = absurd (omega arith)
  at_front (x ∷ xs) m zero h = refl
  at_front (x ∷ xs) m (suc p) h = at_front xs m p (omega arith)

module _ {A : Type 0} where
  set_default : (l : List A) (i : ℕ) (d : A) → get_or (set l i d) i d ≡ d
  set_default [] i d = refl
  set_default (x ∷ xs) zero d = refl
  set_default (x ∷ xs) (suc i) d = set_default xs i d

  pub set_default_until : (l m : List A) (i k : ℕ) (d : A) → m ≡ set l i d → ((j : ℕ) → j < i → get_or l j d ≡ d) →
      k < i + 1 → get_or m k d ≡ d
  set_default_until l m i k d e h lt = ap (λ (z : List A). get_or z k d) e
      ∙ dite (ℕ_discrete k i) (λ hit. ap (λ (z : ℕ). get_or (set l i d) z d) hit ∙ set_default l i d)
      (λ miss. get_or-set_other l i k d d miss ∙ h k (omega arith))
