-- A loop over a list: if P holds of the first i elements and of the element at place i, P holds of the first i + 1.
use Rattle.std.proofs.Common.{◌≡◌, ℕ, zero, suc, ◌+◌, ◌<◌, List, [], ◌∷◌, ◌++◌, length, get_or, take, map, refl, sym, subst, ap, ◌∙◌, arith}
use Rattle.std.specs.List.{AllByRecursion}
use Rattle.std.proofs.lemmas.List.{take_more, map-append, length-map, get_or-map}
use Rattle.key_names.proofs.Lists.Each.{each_more}

pub each_at : {A : Type 0} (P : A → Type 0) (xs : List A) (i : ℕ) (d : A) → AllByRecursion P xs → i < length xs →
    P (get_or xs i d)
each_at P [] i d all low = absurd (omega arith)
each_at P (x ∷ xs) zero d all low = all.0
each_at P (x ∷ xs) (suc i) d all low = each_at P xs i d all.1 (omega arith)

module _ {A : Type 0} (xs : List A) (i : ℕ) (x : A) (low : i < length xs) (is : x ≡ get_or xs i x) where
  pub taken_more : take (i + 1) xs ≡ take i xs ++ x ∷ []
  taken_more = take_more xs i x low ∙ ap (λ y. take i xs ++ y ∷ []) (sym is)

  -- if `done` is `f` mapped over the first `i` elements of `xs`, and `x` is the next element, `done` with `f x`
  -- appended is `f` mapped over the first `i + 1`
  pub mapped_more : {B : Type 0} (f : A → B) (done : List B) → done ≡ map f (take i xs) →
      done ++ f x ∷ [] ≡ map f (take (i + 1) xs)
  mapped_more f done so_far =
      ap (λ ys. ys ++ f x ∷ []) so_far ∙ sym (map-append f (take i xs) (x ∷ [])) ∙ ap (map f) (sym taken_more)

  -- if P holds of the first i mapped elements and of the next mapped one, P holds of the first i + 1
  pub each_mapped_more : {B : Type 0} (f : A → B) (P : B → Type 0) → AllByRecursion P (map f (take i xs)) → P (f x) →
      AllByRecursion P (map f (take (i + 1) xs))
  each_mapped_more f P before here =
      let e : map f (take i xs) ++ f x ∷ [] ≡ map f (take (i + 1) xs) = mapped_more f (map f (take i xs)) refl in
      subst (AllByRecursion P) e (each_more P (map f (take i xs)) (f x) before here)

  pub mapped_at : {B : Type 0} (f : A → B) → get_or (map f xs) i (f x) ≡ f x
  mapped_at f = get_or-map f xs i x (f x) low ∙ ap f (sym is)

  -- if P holds of all mapped elements, P holds of `f x`, where `x` is the element of `xs` at place i
  pub each_mapped_at : {B : Type 0} (f : A → B) (P : B → Type 0) → AllByRecursion P (map f xs) → P (f x)
  each_mapped_at f P all = subst P (mapped_at f) (each_at P (map f xs) i (f x) all (rw length-map low))
