-- A value that is carried along a list of steps, one step at a time.
use Rattle.std.proofs.Common.{◌≡◌, ℕ, zero, suc, ◌+◌, ◌<◌, ◌≤◌, Option, Some, List, [], ◌∷◌, ◌++◌, length, get_or, take, drop, refl, sym, subst, ap, ◌∙◌, arith}
use Rattle.std.specs.Prelude.{◌↔◌, slice_get}
use Rattle.std.specs.List.{fold}
use Rattle.std.proofs.lemmas.List.{take_all, take_more, drop_more, at_drop_all}
use Rattle.std.proofs.lemmas.List.Sums.{fold-append}
use mathlib.Core.Logic.{dite}
use native.Mathlib.Decide.{ℕ_discrete}
use Rattle.key_names.specs.declared.names.Step.{Step}
use Rattle.judge_lines.specs.declared.along.OrderWalk.{OrderWalk}
use Rattle.judge_lines.specs.Along.{Along, HasGone}

pub get_front : {X : Type 0} (xs : List X) (x : X) (n : ℕ) → n < length xs → slice_get (xs ++ x ∷ []) n ≡ slice_get xs n
get_front [] x n low = absurd (omega arith)
get_front (y ∷ xs) x zero low = refl
get_front (y ∷ xs) x (suc n) low = get_front xs x n (omega arith)

pub get_last : {X : Type 0} (xs : List X) (x : X) → slice_get (xs ++ x ∷ []) (length xs) ≡ Some x
get_last [] x = refl
get_last (y ∷ xs) x = get_last xs x

-- if P holds for each element of `xs` with its place, and for `y` with the next place, then P holds for each element of
-- xs ++ y ∷ []
pub each_found : {X : Type 0} (P : ℕ → X → Type 0) (xs : List X) (y : X) →
    ((p : ℕ) (x : X) → slice_get xs p ≡ Some x → P p x) → P (length xs) y →
    (p : ℕ) (x : X) → slice_get (xs ++ y ∷ []) p ≡ Some x → P p x
each_found P [] y before here zero x is = let e : y ≡ x = cc in subst (P 0) e here
each_found P [] y before here (suc p) x is = cc
each_found P (z ∷ xs) y before here zero x is = before 0 x is
each_found P (z ∷ xs) y before here (suc p) x is =
    each_found (λ k. P (suc k)) xs y (λ q w found. before (suc q) w found) here p x is

module _ (after : Option ℕ → Step → Option ℕ) (May : Option ℕ → Step → Type 0) where
  pub along_more : (carried : Option ℕ) (steps : List Step) (i : ℕ) (d : Step) → i < length steps →
      Along after May carried (drop i steps)
      ↔ May carried (get_or steps i d) × Along after May (after carried (get_or steps i d)) (drop (i + 1) steps)
  along_more carried steps i d low = rw (drop_more steps i d low) ((λ h. h), (λ h. h))

  pub along_end : (carried : Option ℕ) (steps : List Step) (i : ℕ) → length steps ≤ i → Along after May carried (drop i steps)
  along_end carried steps i high = rw (at_drop_all (λ x. x) steps i high) tt

  pub carried_more : (start : Option ℕ) (steps : List Step) (i : ℕ) (d : Step) → i < length steps →
      after (fold after start (take i steps)) (get_or steps i d) ≡ fold after start (take (i + 1) steps)
  carried_more start steps i d low =
      sym (fold-append after start (take i steps) (get_or steps i d ∷ []))
      ∙ ap (λ (s : List Step). fold after start s) (sym (take_more steps i d low))

  pub carried_next : (start carried : Option ℕ) (steps : List Step) (i : ℕ) (d : Step) → i < length steps →
      carried ≡ fold after start (take i steps) → after carried (get_or steps i d) ≡ fold after start (take (i + 1) steps)
  carried_next start carried steps i d low here =
      ap (λ v. after v (get_or steps i d)) here ∙ carried_more start steps i d low

  pub kept_more : (start carried : Option ℕ) (steps : List Step) (i : ℕ) (kept : List (Option ℕ)) → length kept ≡ i →
      carried ≡ fold after start (take i steps) →
      ((n : ℕ) → n < i → slice_get kept n ≡ Some (fold after start (take n steps))) →
      (n : ℕ) → n < i + 1 → slice_get (kept ++ carried ∷ []) n ≡ Some (fold after start (take n steps))
  kept_more start carried steps i kept long here before n low = dite (ℕ_discrete n i)
      (λ e. ap (slice_get (kept ++ carried ∷ [])) (e ∙ sym long) ∙ get_last kept carried ∙ ap Some here
      ∙ ap (λ k. Some (fold after start (take k steps))) (sym e))
      (λ ne. get_front kept carried n (omega arith) ∙ before n (omega arith))

  pub along_parts : (v : Option ℕ) (xs ys : List Step) → Along after May v (xs ++ ys) →
      Along after May v xs × Along after May (fold after v xs) ys
  along_parts v [] ys h = (tt, h)
  along_parts v (x ∷ xs) ys h =
      let rest : Along after May (after v x) xs × Along after May (fold after (after v x) xs) ys =
      along_parts (after v x) xs ys h.1 in ((h.0, rest.0), rest.1)

  pub along_both : (v : Option ℕ) (xs ys : List Step) → Along after May v xs → Along after May (fold after v xs) ys →
      Along after May v (xs ++ ys)
  along_both v [] ys h k = k
  along_both v (x ∷ xs) ys h k = (h.0, along_both (after v x) xs ys h.1 k)

  pub gone_nowhere : (walk : OrderWalk) → HasGone after May walk [] walk
  gone_nowhere walk = record { carried = refl; follows = ((λ h. (h, tt)), (λ h. h.0)) }

  -- a walk along `xs` and then along `ys` is a walk along xs ++ ys
  pub gone_on : (walk middle on : OrderWalk) (xs ys : List Step) → HasGone after May walk xs middle →
      HasGone after May middle ys on → HasGone after May walk (xs ++ ys) on
  gone_on walk middle on xs ys a b = record {
    carried = b.carried ∙ ap (λ v. fold after v ys) a.carried ∙ sym (fold-append after walk.carried xs ys);
    follows = (
      (λ h.
          let there = b.follows.0 h in
          let here = a.follows.0 there.0 in
          (here.0, along_both walk.carried xs ys here.1 (subst (λ v. Along after May v ys) a.carried there.1))),
      (λ h.
          let parts = along_parts walk.carried xs ys h.1 in
          b.follows.1 (a.follows.1 (h.0, parts.0), subst (λ v. Along after May v ys) (sym a.carried) parts.1)),
    );
  }

  pub gone_more : (walk middle on : OrderWalk) (steps : List Step) (i : ℕ) (d : Step) → i < length steps →
      HasGone after May walk (take i steps) middle → HasGone after May middle (get_or steps i d ∷ []) on →
      HasGone after May walk (take (i + 1) steps) on
  gone_more walk middle on steps i d low a b =
      subst (λ (xs : List Step). HasGone after May walk xs on) (sym (take_more steps i d low))
      (gone_on walk middle on (take i steps) (get_or steps i d ∷ []) a b)

  pub gone_all : (walk on : OrderWalk) (steps : List Step) (i : ℕ) → length steps ≤ i →
      HasGone after May walk (take i steps) on → HasGone after May walk steps on
  gone_all walk on steps i high a = subst (λ (xs : List Step). HasGone after May walk xs on) (take_all i steps high) a
