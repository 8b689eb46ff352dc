-- If StepFacts holds for each entry, then Walk holds for a lawful list: no byte is used twice, and no replaced key is
-- live at the end. The laws about uses follow from such a walk over the base's list, each CPU's and each state's.
use Rattle.std.proofs.Common.{◌≡◌, ℕ, suc, ◌+◌, List, [], ◌∷◌, inl, inr, ap, ◌∙◌, arith, Some, refl}
use Rattle.std.specs.Prelude.{slice_get}
use Rattle.std.specs.List.{fold}
use Rattle.key_names.specs.declared.names.KeyName.{KeyName}
use Rattle.key_names.specs.Lanes.LawfulList.{LawfulFrom, SomeFrom}
use Rattle.key_names.specs.Keys.Uses.{Use, IsUsed, Disjoint, uses_from}
use Rattle.key_names.proofs.Uses.UseLists.{IsUsed-append_cases, Disjoint-append}

-- `MayUse` gives the bytes that entries after a state may use. `MayHold` gives the keys that may be live now or later.
-- `Holds` is a fact that is true in each state
module _ {S E : Type 0} (May : S → E → Type 0) (step : S → E → S) (uses_at : S → E → List Use)
    (Replaces : KeyName → S → E → Type 0) (Holds : S → Type 0) (MayUse : S → KeyName → ℕ → Type 0)
    (MayHold : S → KeyName → Type 0) where
  -- an entry uses only bytes that MayUse allows before the entry and no longer allows after it. The keys that the entry
  -- replaces are not live after it
  pub record StepFacts (s : S) (e : E) : Type 0 where
    pub disjoint : Disjoint (uses_at s e)
    pub within : (k : KeyName) (q : ℕ) → IsUsed (uses_at s e) k q → MayUse s k q
    pub before : (k : KeyName) (q : ℕ) → MayUse (step s e) k q → MayUse s k q
    pub apart : (k : KeyName) (q : ℕ) → IsUsed (uses_at s e) k q → MayUse (step s e) k q → ⊥
    pub held_before : (k : KeyName) → MayHold (step s e) k → MayHold s k
    pub replaced : (k : KeyName) → Replaces k s e → MayHold s k
    pub gone : (k : KeyName) → Replaces k s e → MayHold (step s e) k → ⊥
    pub holds : Holds (step s e)

  -- a list uses only bytes that MayUse allows before the list and no longer allows after it. The keys that the list
  -- replaces are not live after it
  pub record Walk (s : S) (es : List E) : Type 0 where
    pub disjoint : Disjoint (uses_from uses_at step s es)
    pub within : (k : KeyName) (q : ℕ) → IsUsed (uses_from uses_at step s es) k q → MayUse s k q
    pub before : (k : KeyName) (q : ℕ) → MayUse (fold step s es) k q → MayUse s k q
    pub apart : (k : KeyName) (q : ℕ) → IsUsed (uses_from uses_at step s es) k q → MayUse (fold step s es) k q → ⊥
    pub held_before : (k : KeyName) → MayHold (fold step s es) k → MayHold s k
    pub replaced : (k : KeyName) → SomeFrom (Replaces k) step s es → MayHold s k
    pub gone : (k : KeyName) → SomeFrom (Replaces k) step s es → MayHold (fold step s es) k → ⊥
    pub holds : Holds (fold step s es)

  join : (s : S) (e : E) (es : List E) → StepFacts s e → Walk (step s e) es → Walk s (e ∷ es)
  join s e es now rest = record {
    disjoint = Disjoint-append (uses_at s e) _ now.disjoint rest.disjoint
        (λ k q a b. now.apart k q a (rest.within k q b));
    within = λ k q h. elim (IsUsed-append_cases (uses_at s e) _ k q h)
        [ inl a ↦ now.within k q a | inr b ↦ now.before k q (rest.within k q b) ];
    before = λ k q h. now.before k q (rest.before k q h);
    apart = λ k q h later. elim (IsUsed-append_cases (uses_at s e) _ k q h)
        [ inl a ↦ now.apart k q a (rest.before k q later) | inr b ↦ rest.apart k q b later ];
    held_before = λ k h. now.held_before k (rest.held_before k h);
    replaced = λ k h. elim h [ inl a ↦ now.replaced k a | inr b ↦ now.held_before k (rest.replaced k b) ];
    gone = λ k h later. elim h [ inl a ↦ now.gone k a (rest.held_before k later) | inr b ↦ rest.gone k b later ];
    holds = rest.holds;
  }

  pub walk : ((s : S) (e : E) → May s e → Holds s → StepFacts s e) → (s : S) (es : List E) →
      LawfulFrom May step s es → Holds s → Walk s es
  walk facts s [] lawful holds = record {
    disjoint = tt;
    within = λ k q h. absurd h;
    before = λ k q h. h;
    apart = λ k q h later. h;
    held_before = λ k h. h;
    replaced = λ k h. absurd h;
    gone = λ k h later. h;
    holds = holds;
  }
  walk facts s (e ∷ es) lawful holds =
      let now : StepFacts s e = facts s e lawful.0 holds in
      join s e es now (walk facts (step s e) es lawful.1 now.holds)

-- if `at` gives `of e` at the place of each entry e, then a lawful list is also lawful with this condition added
pub lawful_and_inferred : {S E A : Type 0} (May : S → E → Type 0) (step : S → E → S) (place : S → ℕ) →
    ((s : S) (e : E) → place (step s e) ≡ suc (place s)) → (at : ℕ → A) (of : E → A) (s : S) (es : List E) →
    ((j : ℕ) (e : E) → slice_get es j ≡ Some e → at (place s + j) ≡ of e) → LawfulFrom May step s es →
    LawfulFrom (λ s e. May s e × (at (place s) ≡ of e)) step s es
lawful_and_inferred May step place next at of s [] inferred lawful = tt
lawful_and_inferred May step place next at of s (e ∷ es) inferred lawful = (
  (lawful.0, (let p : place s ≡ place s + 0 = omega arith in ap at p ∙ inferred 0 e refl)),
  lawful_and_inferred May step place next at of (step s e) es
      (λ j x is. let n : place (step s e) ≡ suc (place s) = next s e in
      let p : place (step s e) + j ≡ place s + suc j = omega arith in
      ap at p ∙ inferred (suc j) x is) lawful.1,
)
