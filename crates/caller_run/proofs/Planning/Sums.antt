-- Sums over lists and ranges of numbers.
use Rattle.std.proofs.Common.{◌≡◌, ℕ, zero, suc, ◌+◌, ◌<◌, ◌≤◌, Bool, cond, List, [], ◌∷◌, length, refl, ap, ◌∙◌, arith}
use mathlib.Core.Logic.{dite}
use native.Mathlib.Decide.{ℕ_discrete}
use Rattle.std.specs.Prelude.{◌==◌}
use Rattle.std.specs.List.{AllByRecursion, flat_map, sum_by, range_with_len}
use Rattle.std.proofs.lemmas.List.Sums.{sum_by-cons, sum_by-append}
use Rattle.std.proofs.lemmas.Bool.{eq-eqb, ne_eqb}
use Rattle.key_names.proofs.Lists.Each.{each_append}

pub sum_flat : {X Y : Type 0} (g : Y → ℕ) (f : X → List Y) (xs : List X) →
    sum_by g (flat_map f xs) ≡ sum_by (λ x. sum_by g (f x)) xs
sum_flat g f [] = refl
sum_flat g f (x ∷ xs) =
    let rest : sum_by g (flat_map f xs) ≡ sum_by (λ x. sum_by g (f x)) xs = sum_flat g f xs in
    let a = sum_by-append g (f x) (flat_map f xs) in
    let b = sum_by-cons (λ x. sum_by g (f x)) x xs in omega arith

pub each_flat : {X Y : Type 0} (P : Y → Type 0) (f : X → List Y) (xs : List X) →
    AllByRecursion (λ x. AllByRecursion P (f x)) xs → AllByRecursion P (flat_map f xs)
each_flat P f [] all = tt
each_flat P f (x ∷ xs) all = each_append P (f x) (flat_map f xs) all.0 (each_flat P f xs all.1)

pub sum_ones : {X : Type 0} (xs : List X) → sum_by (λ x. 1) xs ≡ length xs
sum_ones [] = refl
sum_ones (x ∷ xs) = let rest = sum_ones xs in let a = sum_by-cons (λ x. 1) x xs in omega arith

pub sum_one : {X : Type 0} (f : X → ℕ) (x : X) → sum_by f (x ∷ []) ≡ f x
sum_one f x = sum_by-cons f x [] ∙ omega arith

pub sum_same : {X : Type 0} (f g : X → ℕ) (xs : List X) → ((x : X) → f x ≡ g x) → sum_by f xs ≡ sum_by g xs
sum_same f g [] same = refl
sum_same f g (x ∷ xs) same =
    let rest : sum_by f xs ≡ sum_by g xs = sum_same f g xs same in
    let here = same x in
    let a = sum_by-cons f x xs in let b = sum_by-cons g x xs in omega arith

-- if two functions agree on a range, they have the same sum over it
pub sum_range : (f g : ℕ → ℕ) (first count : ℕ) → ((i : ℕ) → i < first + count → f i ≡ g i) →
    sum_by f (range_with_len first count) ≡ sum_by g (range_with_len first count)
sum_range f g first zero same = refl
sum_range f g first (suc count) same =
    let rest : sum_by f (range_with_len (first + 1) count) ≡ sum_by g (range_with_len (first + 1) count) =
    sum_range f g (first + 1) count (λ i low. same i (omega arith)) in
    let here : f first ≡ g first = same first (omega arith) in
    let a = sum_by-cons f first (range_with_len (first + 1) count) in
    let b = sum_by-cons g first (range_with_len (first + 1) count) in omega arith

pub sum_both : {X : Type 0} (f g : X → ℕ) (xs : List X) → sum_by (λ x. f x + g x) xs ≡ sum_by f xs + sum_by g xs
sum_both f g [] = refl
sum_both f g (x ∷ xs) =
    let rest : sum_by (λ x. f x + g x) xs ≡ sum_by f xs + sum_by g xs = sum_both f g xs in
    let a = sum_by-cons (λ x. f x + g x) x xs in
    let b = sum_by-cons f x xs in let c = sum_by-cons g x xs in omega arith

pub sum_none : {X : Type 0} (xs : List X) → sum_by (λ x. 0) xs ≡ 0
sum_none [] = refl
sum_none (x ∷ xs) = let rest = sum_none xs in let a = sum_by-cons (λ x. 0) x xs in omega arith

-- 1 if the test is true, and otherwise 0
abbrev pub hit : Bool → ℕ
hit b = cond b 1 0

pub hit_same : (n i : ℕ) → n ≡ i → hit (n == i) ≡ 1
hit_same n i same = ap hit (eq-eqb n i same)

pub hit_other : (n i : ℕ) → (n ≡ i → ⊥) → hit (n == i) ≡ 0
hit_other n i ne = ap hit (ne_eqb n i ne)

-- a number that is in a range occurs in it once

abbrev times_in : ℕ → ℕ → ℕ → ℕ
times_in n first count = sum_by (λ i. hit (n == i)) (range_with_len first count)

one_more : (n first count : ℕ) → times_in n first (suc count) ≡ hit (n == first) + times_in n (first + 1) count
one_more n first count = sum_by-cons (λ i. hit (n == i)) first (range_with_len (first + 1) count)

none_below : (n first count : ℕ) → n < first → times_in n first count ≡ 0
none_below n first zero below = refl
none_below n first (suc count) below =
    one_more n first count ∙ (λ i. hit_other n first (λ e. omega arith) i + none_below n (first + 1) count (omega arith) i)

pub once_in_range : (n first count : ℕ) → first ≤ n → n < first + count → times_in n first count ≡ 1
once_in_range n first zero from below = absurd (omega arith)
once_in_range n first (suc count) from below =
    one_more n first count
    ∙ dite (ℕ_discrete n first)
    (λ same. (let here = hit_same n first same in
    let rest : times_in n (first + 1) count ≡ 0 = none_below n (first + 1) count (omega arith) in omega arith))
    (λ ne. (let here = hit_other n first ne in
    let from' : first + 1 ≤ n = ne_above n first from ne in
    let rest : times_in n (first + 1) count ≡ 1 = once_in_range n (first + 1) count from' (omega arith) in omega arith))
  where
    ne_above : (n first : ℕ) → first ≤ n → (n ≡ first → ⊥) → first + 1 ≤ n
    ne_above n first from ne = omega arith
