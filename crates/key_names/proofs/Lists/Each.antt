-- Facts that hold for each element of a list. They still hold after the list grows or an element changes, if they hold
-- for the new element.
use Rattle.std.proofs.Common.{ℕ, zero, suc, set, List, [], ◌∷◌, ◌++◌}
use Rattle.std.specs.List.{AllByRecursion}

-- if `P` holds for each element of `xs` and for `x`, it holds for each element of `xs` with `x` appended
pub each_more : {X : Type 0} (P : X → Type 0) (xs : List X) (x : X) → AllByRecursion P xs → P x →
    AllByRecursion P (xs ++ x ∷ [])
each_more P [] x all here = (here, tt)
each_more P (y ∷ ys) x all here = (all.0, each_more P ys x all.1 here)

-- if `P` holds for each element of `xs` and for `x`, it still holds for each element after `x` replaces element `i`
pub each_set : {X : Type 0} (P : X → Type 0) (xs : List X) (i : ℕ) (x : X) → AllByRecursion P xs → P x →
    AllByRecursion P (set xs i x)
each_set P [] i x all here = tt
each_set P (y ∷ ys) zero x all here = (here, all.1)
each_set P (y ∷ ys) (suc i) x all here = (all.0, each_set P ys i x all.1 here)

pub each_append : {X : Type 0} (P : X → Type 0) (xs ys : List X) → AllByRecursion P xs → AllByRecursion P ys →
    AllByRecursion P (xs ++ ys)
each_append P [] ys all more = more
each_append P (x ∷ xs) ys all more = (all.0, each_append P xs ys all.1 more)

-- if `P` holds for each element of `xs`, and `P` implies `Q`, then `Q` holds for each element of `xs`
pub each_weaker : {X : Type 0} (P Q : X → Type 0) (xs : List X) → ((x : X) → P x → Q x) → AllByRecursion P xs →
    AllByRecursion Q xs
each_weaker P Q [] weaker all = tt
each_weaker P Q (x ∷ xs) weaker all = (weaker x all.0, each_weaker P Q xs weaker all.1)

-- if `P` holds for each element of `xs ++ ys`, it holds for each element of `xs` and for each of `ys`
pub each_parts : {X : Type 0} (P : X → Type 0) (xs ys : List X) → AllByRecursion P (xs ++ ys) →
    AllByRecursion P xs × AllByRecursion P ys
each_parts P [] ys all = (tt, all)
each_parts P (x ∷ xs) ys all =
    let rest : AllByRecursion P xs × AllByRecursion P ys = each_parts P xs ys all.1 in ((all.0, rest.0), rest.1)

pub each_left : {X : Type 0} (P : X → Type 0) (xs ys : List X) → AllByRecursion P (xs ++ ys) → AllByRecursion P xs
each_left P xs ys all = (each_parts P xs ys all).0

pub each_right : {X : Type 0} (P : X → Type 0) (xs ys : List X) → AllByRecursion P (xs ++ ys) → AllByRecursion P ys
each_right P xs ys all = (each_parts P xs ys all).1

-- if `P` holds for each element of `xs`, and `Q` does too, then both hold together for each element of `xs`
pub each_both : {X : Type 0} (P Q : X → Type 0) (xs : List X) → AllByRecursion P xs → AllByRecursion Q xs →
    AllByRecursion (λ x. P x × Q x) xs
each_both P Q [] all all' = tt
each_both P Q (x ∷ xs) all all' = ((all.0, all'.0), each_both P Q xs all.1 all'.1)
