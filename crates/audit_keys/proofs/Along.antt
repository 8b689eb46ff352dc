-- The code goes along a list and appends the results of each entry. At the end it has appended `listed_from` of the
-- whole list.
use Rattle.std.proofs.Common.{◌≡◌, ◌≤◌, ◌<◌, ◌+◌, ℕ, List, [], ◌∷◌, ◌++◌, length, take, get_or, Some, refl, sym, ap, ◌∙◌, append_assoc, append-nil}
use Rattle.std.specs.Prelude.{map, slice_get}
use Rattle.std.specs.List.{fold}
use Rattle.std.proofs.lemmas.List.{map-append, take_all, take_more}
use Rattle.judge_log.proofs.Loops.{take_at}
use Rattle.audit_keys.specs.ListedFrom.{listed_from}

-- if `mid` equals `old`, and `new` is `mid` with the items `add` appended, `new` is `old` with `add` appended
pub after_same : {T : Type 0} (old mid new add : List T) → mid ≡ old → new ≡ mid ++ add → new ≡ old ++ add
after_same old mid new add stayed added = added ∙ ap (λ ts. ts ++ add) stayed

-- if `f` of the next element is appended to `old` and `f` of each of the first `i` elements of `xs`, the list has `f`
-- of the first `i + 1` elements
pub map_more : {A B : Type 0} (f : A → B) (xs : List A) (i : ℕ) (d : A) (old now new : List B) → i < length xs →
    now ≡ old ++ map f (take i xs) → new ≡ now ++ f (get_or xs i d) ∷ [] → new ≡ old ++ map f (take (i + 1) xs)
map_more f xs i d old now new below h more =
    more ∙ ap (λ bs. bs ++ f (get_or xs i d) ∷ []) h
    ∙ append_assoc old (map f (take i xs)) (f (get_or xs i d) ∷ [])
    ∙ ap (λ bs. old ++ bs) (sym (ap (map f) (take_more xs i d below) ∙ map-append f (take i xs) (get_or xs i d ∷ [])))

module _ {S E T : Type 0} (tells : S → E → List T) (step : S → E → S) where
  listed_append : (s : S) (es fs : List E) →
      listed_from tells step s (es ++ fs) ≡ listed_from tells step s es ++ listed_from tells step (fold step s es) fs
  listed_append s [] fs = refl
  listed_append s (e ∷ es) fs =
      ap (λ ts. tells s e ++ ts) (listed_append (step s e) es fs)
      ∙ sym (append_assoc (tells s e) (listed_from tells step (step s e) es)
      (listed_from tells step (fold step (step s e) es) fs))

  module _ (start : S) (entries : List E) where
    -- `now` is `old`, and then the results of the entries before `place`
    abbrev pub IsListed : ℕ → List T → List T → Type 0
    IsListed place old now = now ≡ old ++ listed_from tells step start (take place entries)

    pub listed_more : (place : ℕ) (e : E) (old now new : List T) → slice_get entries place ≡ Some e →
        IsListed place old now → new ≡ now ++ tells (fold step start (take place entries)) e → IsListed (place + 1) old new
    listed_more place e old now new is h more =
        more
        ∙ ap (λ ts. ts ++ tells (fold step start (take place entries)) e) h
        ∙ append_assoc old (listed_from tells step start (take place entries))
        (tells (fold step start (take place entries)) e)
        ∙ ap (λ ts. old ++ ts) (sym (ap (listed_from tells step start) (take_at entries place e is)
        ∙ listed_append start (take place entries) (e ∷ [])
        ∙ ap (λ ts. listed_from tells step start (take place entries) ++ ts)
        (append-nil (tells (fold step start (take place entries)) e))))

    pub listed_all : (place : ℕ) (old now : List T) → length entries ≤ place → IsListed place old now →
        now ≡ old ++ listed_from tells step start entries
    listed_all place old now all h =
        h ∙ ap (λ es. old ++ listed_from tells step start es) (take_all place entries all)

    -- suppose that `mid` equals `now`, which has the results of the entries before `place`. If the results of the entry
    -- at `place` are appended, `new` has the results of the entries before `place + 1`
    pub listed_after : (place : ℕ) (e : E) (old now mid new : List T) → slice_get entries place ≡ Some e →
        IsListed place old now → mid ≡ now → new ≡ mid ++ tells (fold step start (take place entries)) e →
        IsListed (place + 1) old new
    listed_after place e old now mid new is h stayed more = listed_more place e old now new is h
        (after_same now mid new (tells (fold step start (take place entries)) e) stayed more)
