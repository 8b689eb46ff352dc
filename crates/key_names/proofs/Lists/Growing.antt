-- A lawful list stays lawful if entries that may come are added at its end. Its earlier entries and their states do not
-- change.
use Rattle.std.proofs.Common.{◌≡◌, ℕ, zero, suc, List, [], ◌∷◌, ◌++◌, refl, subst, ap, ◌∙◌, Some, Option, take}
use Rattle.std.specs.Prelude.{slice_get, option_and_then}
use Rattle.std.specs.List.{fold}
use Rattle.key_names.specs.Lanes.LawfulList.{LawfulFrom}

module _ {S E : Type 0} (May : S → E → Type 0) (step : S → E → S) where
  -- if `xs` is lawful, and `e` may come after it, then `xs` with `e` appended is lawful
  pub lawful_more : (s : S) (xs : List E) (e : E) → LawfulFrom May step s xs → May (fold step s xs) e →
      LawfulFrom May step s (xs ++ e ∷ [])
  lawful_more s [] e lawful may = (may, tt)
  lawful_more s (x ∷ xs) e lawful may = (lawful.0, lawful_more (step s x) xs e lawful.1 may)

  -- if `xs` is lawful, and `ys` is lawful from the state after `xs` on, then `xs` followed by `ys` is lawful
  pub lawful_append : (s : S) (xs ys : List E) → LawfulFrom May step s xs → LawfulFrom May step (fold step s xs) ys →
      LawfulFrom May step s (xs ++ ys)
  lawful_append s [] ys lawful more = more
  lawful_append s (x ∷ xs) ys lawful more = (lawful.0, lawful_append (step s x) xs ys lawful.1 more)

  -- if `xs` is lawful and its entry `i` is `e`, then `e` may come in the state before entry `i`
  pub may_at : (s : S) (xs : List E) (i : ℕ) (e : E) → LawfulFrom May step s xs → slice_get xs i ≡ Some e →
      May (fold step s (take i xs)) e
  may_at s [] i e lawful is = cc
  may_at s (x ∷ xs) zero e lawful is = let same : x ≡ e = cc in subst (May s) same lawful.0
  may_at s (x ∷ xs) (suc i) e lawful is = may_at (step s x) xs i e lawful.1 is

  -- if `xs` is lawful, then its first `i` entries are a lawful list
  pub lawful_take : (s : S) (xs : List E) (i : ℕ) → LawfulFrom May step s xs → LawfulFrom May step s (take i xs)
  lawful_take s [] zero lawful = tt
  lawful_take s [] (suc i) lawful = tt
  lawful_take s (x ∷ xs) zero lawful = tt
  lawful_take s (x ∷ xs) (suc i) lawful = (lawful.0, lawful_take (step s x) xs i lawful.1)

  -- if `f` and `g` agree on each entry that may come, then folding a lawful list by `f` and by `g` gives the same value
  pub fold_same : {V : Type 0} (f g : V → E → V) → ((s : S) (e : E) (v : V) → May s e → f v e ≡ g v e) →
      (s : S) (v : V) (xs : List E) →
      LawfulFrom May step s xs → fold f v xs ≡ fold g v xs
  fold_same f g same s v [] lawful = refl
  fold_same f g same s v (x ∷ xs) lawful =
      ap (λ w. fold f w xs) (same s x v lawful.0) ∙ fold_same f g same (step s x) (g v x) xs lawful.1

-- entry `i` of `xs`, and the entries before it, stay the same if `more` is appended
pub record FrontStays {A : Type 0} (xs more : List A) (i : ℕ) (e : A) : Type 0 where
  pub entry : slice_get (xs ++ more) i ≡ Some e
  pub front : take i (xs ++ more) ≡ take i xs
  pub whole : take (suc i) (xs ++ more) ≡ take (suc i) xs

pub front_stays : {A : Type 0} (xs more : List A) (i : ℕ) (e : A) → slice_get xs i ≡ Some e → FrontStays xs more i e
front_stays [] more i e is = cc
front_stays (x ∷ xs) more zero e is = record { entry = is; front = refl; whole = refl }
front_stays (x ∷ xs) more (suc i) e is =
    let m : FrontStays xs more i e = front_stays xs more i e is in
    record {
      entry = m.entry;
      front = ap (λ ys. x ∷ ys) m.front;
      whole = ap (λ ys. x ∷ ys) m.whole;
    }

-- if entry `i` of `xs` names `b`, then entry `i` of `xs ++ more` names `b` too
pub named_stays : {A B : Type 0} (of : A → Option B) (xs more : List A) (i : ℕ) (b : B) →
    option_and_then of (slice_get xs i) ≡ Some b →
    option_and_then of (slice_get (xs ++ more) i) ≡ Some b
named_stays of [] more i b is = cc
named_stays of (x ∷ xs) more zero b is = is
named_stays of (x ∷ xs) more (suc i) b is = named_stays of xs more i b is

-- if a lookup of place `i` gives the name `b`, then the list has an entry at place `i`, and this entry names `b`
pub named_entry : {A B : Type 0} (of : A → Option B) (xs : List A) (i : ℕ) (b : B) →
    option_and_then of (slice_get xs i) ≡ Some b →
    (e : A) × (slice_get xs i ≡ Some e) × (of e ≡ Some b)
named_entry of [] i b is = cc
named_entry of (x ∷ xs) zero b is = (x, refl, is)
named_entry of (x ∷ xs) (suc i) b is = named_entry of xs i b is
