-- Whether a statement holds is decided by computing. Each answer, yes or no, comes with its proof.
use Rattle.std.proofs.Common.{◌≡◌, ◌<◌, ◌≤◌, ◌⊎◌, ℕ, suc, Bool, true, false, Option, Some, None, List, [], ◌∷◌, refl}
use Rattle.std.proofs.Common.{sym, ap, inl, inr, eqb, leb, arith}
use Rattle.std.specs.Prelude.{MatchBool}
use Rattle.std.specs.List.{AllByRecursion}
use Rattle.std.proofs.lemmas.Bool.Decides.{nat_tests}

-- `P` holds, or `P` does not hold
pub data Decided (P : Type 0) : Type 0 where
  yes : P → Decided P
  no : (P → ⊥) → Decided P

abbrev pub by_test : {P : Type 0} (b : Bool) → (b ≡ true → P) → (b ≡ false → P → ⊥) → Decided P
by_test true p q = yes (p refl)
by_test false p q = no (q refl)

pub same_if : (a b : ℕ) → eqb a b ≡ true → a ≡ b
same_if a b e = grind (arith, nat_tests)

pub other_if : (a b : ℕ) → eqb a b ≡ false → a ≡ b → ⊥
other_if a b e s = grind (arith, nat_tests)

pub most_if : (a b : ℕ) → leb a b ≡ true → a ≤ b
most_if a b e = grind (arith, nat_tests)

pub more_if : (a b : ℕ) → leb a b ≡ false → a ≤ b → ⊥
more_if a b e s = grind (arith, nat_tests)

abbrev pub same_number : (a b : ℕ) → Decided (a ≡ b)
same_number a b = by_test (eqb a b) (same_if a b) (other_if a b)

abbrev pub at_most : (a b : ℕ) → Decided (a ≤ b)
at_most a b = by_test (leb a b) (most_if a b) (more_if a b)

abbrev pub below : (a b : ℕ) → Decided (a < b)
below a b = at_most (suc a) b

-- ---- Decisions made from other decisions

abbrev pub both : {P Q : Type 0} → Decided P → Decided Q → Decided (P × Q)
both (yes p) (yes q) = yes (p, q)
both (yes p) (no q) = no (λ h. q h.1)
both (no p) d = no (λ h. p h.0)

abbrev pub either : {P Q : Type 0} → Decided P → Decided Q → Decided (P ⊎ Q)
either (yes p) d = yes (inl p)
either (no p) (yes q) = yes (inr q)
either (no p) (no q) = no (λ h. elim h [ inl x ↦ p x | inr y ↦ q y ])

abbrev pub implied : {P Q : Type 0} → Decided P → Decided Q → Decided (P → Q)
implied d (yes q) = yes (λ p. q)
implied (yes p) (no q) = no (λ f. q (f p))
implied (no p) (no q) = yes (λ h. absurd (p h))

abbrev pub negated : {P : Type 0} → Decided P → Decided (P → ⊥)
negated (yes p) = no (λ f. f p)
negated (no p) = yes p

-- if `P` is decided, an equivalent statement `Q` is decided too
abbrev pub likewise : {P Q : Type 0} → (P → Q) → (Q → P) → Decided P → Decided Q
likewise f g (yes p) = yes (f p)
likewise f g (no p) = no (λ q. p (g q))

abbrev pub each : {X : Type 0} {P : X → Type 0} → ((x : X) → Decided (P x)) → (xs : List X) →
    Decided (AllByRecursion P xs)
each d [] = yes tt
each d (x ∷ xs) = both (d x) (each d xs)

-- ---- Deciding whether two values are equal

pub no_first : {X : Type 0} (y : X) (ys : List X) → [] ≡ y ∷ ys → ⊥
no_first y ys e = cc

pub first_same : {X : Type 0} (x y : X) (xs ys : List X) → x ∷ xs ≡ y ∷ ys → x ≡ y
first_same x y xs ys e = cc

pub rest_same : {X : Type 0} (x y : X) (xs ys : List X) → x ∷ xs ≡ y ∷ ys → xs ≡ ys
rest_same x y xs ys e = cc

pub all_same : {X : Type 0} (x y : X) (xs ys : List X) → x ≡ y → xs ≡ ys → x ∷ xs ≡ y ∷ ys
all_same x y xs ys h t = cc

pub none_is_not_some : {X : Type 0} (y : X) → None ≡ Some y → ⊥
none_is_not_some y e = cc

pub same_inside : {X : Type 0} (x y : X) → Some x ≡ Some y → x ≡ y
same_inside x y e = cc

pub true_is_not_false : true ≡ false → ⊥
true_is_not_false e = cc

abbrev pub same_list : {X : Type 0} → ((x y : X) → Decided (x ≡ y)) → (xs ys : List X) → Decided (xs ≡ ys)
same_list d [] [] = yes refl
same_list d [] (y ∷ ys) = no (no_first y ys)
same_list d (x ∷ xs) [] = no (λ e. no_first x xs (sym e))
same_list d (x ∷ xs) (y ∷ ys) =
    likewise (λ p. all_same x y xs ys p.0 p.1) (λ e. (first_same x y xs ys e, rest_same x y xs ys e))
    (both (d x y) (same_list d xs ys))

abbrev pub same_option : {X : Type 0} → ((x y : X) → Decided (x ≡ y)) → (a b : Option X) → Decided (a ≡ b)
same_option d None None = yes refl
same_option d None (Some y) = no (none_is_not_some y)
same_option d (Some x) None = no (λ e. none_is_not_some x (sym e))
same_option d (Some x) (Some y) = likewise (ap Some) (same_inside x y) (d x y)

abbrev pub same_bool : (a b : Bool) → Decided (a ≡ b)
same_bool true true = yes refl
same_bool false false = yes refl
same_bool true false = no true_is_not_false
same_bool false true = no (λ e. true_is_not_false (sym e))

abbrev pub same_bytes : (xs ys : List ℕ) → Decided (xs ≡ ys)
same_bytes = same_list same_number

-- ---- A decision as a proof or none

-- a proof of `P`, if `P` holds
abbrev pub found : {P : Type 0} → Decided P → Option P
found (yes p) = Some p
found (no p) = None

abbrev pub found_by : {P Q : Type 0} → (P → Q) → Option P → Option Q
found_by f (Some p) = Some (f p)
found_by f None = None

abbrev pub found_both : {P Q R : Type 0} → (P → Q → R) → Option P → Option Q → Option R
found_both f (Some p) (Some q) = Some (f p q)
found_both f (Some p) None = None
found_both f None o = None

abbrev pub found_three : {P Q R S : Type 0} → (P → Q → R → S) → Option P → Option Q → Option R → Option S
found_three f (Some p) q r = found_both (f p) q r
found_three f None q r = None

abbrev pub found_pair : {P Q : Type 0} → Option P → Option Q → Option (P × Q)
found_pair p q = found_both (λ a b. (a, b)) p q

abbrev pub first_found : {P Q : Type 0} → Option P → Option Q → Option (P ⊎ Q)
first_found (Some p) o = Some (inl p)
first_found None (Some q) = Some (inr q)
first_found None None = None

abbrev pub found_test : {P Q : Type 0} (b : Bool) → Option P → Option Q → Option (MatchBool b P Q)
found_test true p q = p
found_test false p q = q

abbrev pub each_found : {X : Type 0} {P : X → Type 0} → ((x : X) → Option (P x)) → (xs : List X) →
    Option (AllByRecursion P xs)
each_found d [] = Some tt
each_found d (x ∷ xs) = found_both (λ p ps. (p, ps)) (d x) (each_found d xs)
