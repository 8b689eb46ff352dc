-- The code goes along a list and appends the uses of each entry. At the end it has the uses of the whole list.
use Rattle.std.proofs.Common.{◌≡◌, ◌≤◌, ◌+◌, ℕ, List, [], ◌∷◌, ◌++◌, length, take, Some, refl, sym, ap, subst, ◌∙◌, append_assoc, append-nil}
use Rattle.std.specs.Prelude.{slice_get}
use Rattle.std.specs.List.{fold}
use Rattle.std.proofs.lemmas.List.{take_all}
use Rattle.judge_log.proofs.Loops.{take_at, fold_at}
use Rattle.audit_keys.specs.declared.used.Used.{Used}
use Rattle.audit_keys.specs.ListedFrom.{listed_from}

module _ {S E K : Type 0} (used_at : S → E → List Used) (step : S → E → S) (start : S)
    (Conforms : S → ℕ → K → Type 0) (entries : List E) where
  uses_after : (s : S) (es fs : List E) →
      listed_from used_at step s (es ++ fs) ≡ listed_from used_at step s es ++ listed_from used_at step (fold step s es) fs
  uses_after s [] fs = refl
  uses_after s (e ∷ es) fs =
      ap (λ us. used_at s e ++ us) (uses_after (step s e) es fs)
      ∙ sym (append_assoc (used_at s e) (listed_from used_at step (step s e) es)
      (listed_from used_at step (fold step (step s e) es) fs))

  abbrev pub before : ℕ → S
  before place = fold step start (take place entries)

  -- `uses` has the uses of the entries before `place`, and `keys` matches the state before the entry at `place`
  pub record SoFar (place : ℕ) (keys : K) (uses : List Used) : Type 0 where
    pub uses_are : uses ≡ listed_from used_at step start (take place entries)
    pub conforms : Conforms (before place) place keys

  pub so_far_more : (place : ℕ) (e : E) (keys keys' : K) (uses uses' : List Used) →
      slice_get entries place ≡ Some e → SoFar place keys uses →
      uses' ≡ uses ++ used_at (before place) e →
      Conforms (step (before place) e) (place + 1) keys' → SoFar (place + 1) keys' uses'
  so_far_more place e keys keys' uses uses' is h more conforms = record {
    uses_are = more
        ∙ ap (λ us. us ++ used_at (before place) e) h.uses_are
        ∙ sym (ap (listed_from used_at step start) (take_at entries place e is)
        ∙ uses_after start (take place entries) (e ∷ [])
        ∙ ap (λ us. listed_from used_at step start (take place entries) ++ us)
        (append-nil (used_at (before place) e)));
    conforms = subst (λ s. Conforms s (place + 1) keys') (sym (fold_at step start entries place e is)) conforms;
  }

  pub so_far_all : (place : ℕ) (keys : K) (uses : List Used) → length entries ≤ place → SoFar place keys uses →
      uses ≡ listed_from used_at step start entries
  so_far_all place keys uses all h =
      h.uses_are ∙ ap (listed_from used_at step start) (take_all place entries all)
