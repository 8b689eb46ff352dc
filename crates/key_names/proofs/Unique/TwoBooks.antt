-- How the effects of the same steps in two books are related, and which earlier entries determine an entry.
use Rattle.std.proofs.Common.{◌≡◌, ℕ, Bool, true, false, List, [], ◌∷◌, ◌⊎◌, inl, inr, refl, sym, subst, ap, ◌∙◌}
use Rattle.std.specs.Prelude.{MatchBool, ⊤}
use Rattle.key_names.specs.declared.names.Who.{Who}
use Rattle.key_names.specs.declared.entries.PoolEntry.TheVariants.{Mix}
use Rattle.key_names.specs.Lanes.BaseList.{BaseFits}
use Rattle.key_names.specs.Lanes.CpuList.{CpuFits}
use Rattle.key_names.specs.Lanes.Book.{Book, Lists, lists_of}
use Rattle.key_names.specs.Lanes.Samples.{visits_of, IsDump, DumpAt, MixAt}
use Rattle.key_names.specs.Callers.Effects.{Effect, PoolVisit, BaseVisit, CpuVisit, looked, at_pool, at_base, at_cpu}
use Rattle.key_names.specs.Callers.VreadSteps.{looks_of}
use Rattle.key_names.specs.Callers.Forms.{Looked}

-- the books `book` and `book'` both have visits of one event, which is the event of `who`
module _ (book book' : Book) (who : Who) where
  -- `v` and `v'` are the visits at one mark, `v` in `book` and `v'` in `book'`
  pub record SamePool (v v' : PoolVisit) : Type 0 where
    pub place : v.place ≡ v'.place
    pub equal : (lists_of book).pool ≡ (lists_of book').pool → v ≡ v'
    pub mixes : (text : List ℕ) (bits : ℕ) → v.entry ≡ Mix text bits → MixAt book.pool v.place who text bits
    pub mixes' : (text : List ℕ) (bits : ℕ) → v'.entry ≡ Mix text bits → MixAt book'.pool v'.place who text bits

  pub record SameBase (v v' : BaseVisit) : Type 0 where
    pub place : v.place ≡ v'.place
    pub equal : lists_of book ≡ lists_of book' → v ≡ v'
    pub fits : BaseFits v.before v.entry
    pub fits' : BaseFits v'.before v'.entry

  pub record SameCpu (v v' : CpuVisit) : Type 0 where
    pub cpu : v.cpu ≡ v'.cpu
    pub place : v.place ≡ v'.place
    pub equal : lists_of book ≡ lists_of book' → v ≡ v'
    pub fits : CpuFits v.before v.entry
    pub fits' : CpuFits v'.before v'.entry
    pub dumps : IsDump v.entry → DumpAt (visits_of book v.cpu) v.place who
    pub dumps' : IsDump v'.entry → DumpAt (visits_of book' v'.cpu) v'.place who

  -- one step has the two effects, the first in `book` and the second in `book'`
  abbrev pub SameStep : Effect → Effect → Type 0
  SameStep (looked g) (looked g') = g ≡ g'
  SameStep (at_pool v) (at_pool v') = SamePool v v'
  SameStep (at_base v) (at_base v') = SameBase v v'
  SameStep (at_cpu v) (at_cpu v') = SameCpu v v'
  SameStep _ _ = ⊥

  abbrev pub SameSteps : List Effect → List Effect → Type 0
  SameSteps [] [] = ⊤
  SameSteps (d ∷ ds) (d' ∷ ds') = SameStep d d' × SameSteps ds ds'
  SameSteps _ _ = ⊥

  -- the entries of the two effects are equal if the earlier entries that determine them are equal
  abbrev pub Inferred : Effect → Effect → Type 0
  Inferred (at_pool v) (at_pool v') = (lists_of book).cpus ≡ (lists_of book').cpus → v.entry ≡ v'.entry
  Inferred (at_base v) (at_base v') =
      (lists_of book).pool ≡ (lists_of book').pool → v.before.generation ≡ v'.before.generation → v.entry ≡ v'.entry
  Inferred (at_cpu v) (at_cpu v') = v.before.fills ≡ v'.before.fills → v.entry ≡ v'.entry
  Inferred _ _ = ⊤

  abbrev pub AllInferred : List Effect → List Effect → Type 0
  AllInferred [] ds' = ⊤
  AllInferred (d ∷ ds) [] = ⊤
  AllInferred (d ∷ ds) (d' ∷ ds') = Inferred d d' × AllInferred ds ds'

  -- if F and F' hold for the effects that the same steps have in the two books, AllInferred holds for these effects
  abbrev pub Tells : (List Effect → Type 0) → (List Effect → Type 0) → Type 0
  Tells F F' = (ds ds' : List Effect) → F ds → F' ds' → SameSteps ds ds' → AllInferred ds ds'

  pub none_inferred : (ds : List Effect) → AllInferred ds []
  none_inferred [] = tt
  none_inferred (d ∷ ds) = tt

  pub same_at : {ds ds' xs ys : List Effect} → ds ≡ xs → ds' ≡ ys → SameSteps ds ds' → SameSteps xs ys
  same_at {ds = ds} {ds' = ds'} {xs = xs} {ys = ys} p q same =
      let P : List Effect → Type 0 = λ x. SameSteps x ds' in
      let Q : List Effect → Type 0 = λ y. SameSteps xs y in
      subst Q q (subst P p same)

  pub inferred_at : {ds ds' xs ys : List Effect} → ds ≡ xs → ds' ≡ ys → AllInferred xs ys → AllInferred ds ds'
  inferred_at {ds = ds} {ds' = ds'} {xs = xs} {ys = ys} p q inferred =
      let P : List Effect → Type 0 = λ x. AllInferred x ds' in
      let Q : List Effect → Type 0 = λ y. AllInferred xs y in
      subst P (sym p) (subst Q (sym q) inferred)

  pub through : {ds ds' xs ys : List Effect} → ds ≡ xs → ds' ≡ ys → (SameSteps xs ys → AllInferred xs ys) → SameSteps ds ds' →
      AllInferred ds ds'
  through p q f same = inferred_at p q (f (same_at p q same))

  -- if both books have the same lists, each step has the same effect in both
  same_effect : (d d' : Effect) → SameStep d d' → lists_of book ≡ lists_of book' → d ≡ d'
  same_effect (looked g) (looked g') same is = ap looked same
  same_effect (at_pool v) (at_pool v') same is = ap at_pool (same.equal (ap (λ (l : Lists). l.pool) is))
  same_effect (at_base v) (at_base v') same is = ap at_base (same.equal is)
  same_effect (at_cpu v) (at_cpu v') same is = ap at_cpu (same.equal is)
  same_effect _ _ same is = absurd same

  pub same_effects : (ds ds' : List Effect) → SameSteps ds ds' → lists_of book ≡ lists_of book' → ds ≡ ds'
  same_effects [] [] same is = refl
  same_effects [] (d' ∷ ds') same is = absurd same
  same_effects (d ∷ ds) [] same is = absurd same
  same_effects (d ∷ ds) (d' ∷ ds') same is =
      ap (λ x. x ∷ ds) (same_effect d d' same.0 is) ∙ ap (λ xs. d' ∷ xs) (same_effects ds ds' same.1 is)

  pub same_looks : (ds ds' : List Effect) → SameSteps ds ds' → looks_of ds ≡ looks_of ds'
  same_looks [] [] same = refl
  same_looks [] (d' ∷ ds') same = absurd same
  same_looks (d ∷ ds) [] same = absurd same
  same_looks (d ∷ ds) (d' ∷ ds') same = first d d' same.0 (same_looks ds ds' same.1)
    where
      first : (d d' : Effect) → SameStep d d' → looks_of ds ≡ looks_of ds' → looks_of (d ∷ ds) ≡ looks_of (d' ∷ ds')
      first (looked g) (looked g') s rest = ap (λ x. x ∷ looks_of ds) s ∙ ap (λ xs. g' ∷ xs) rest
      first (at_pool v) (at_pool v') s rest = rest
      first (at_base v) (at_base v') s rest = rest
      first (at_cpu v) (at_cpu v') s rest = rest
      first _ _ s rest = absurd s

  pub inferred_nothing : Tells (λ ds. ds ≡ []) (λ ds. ds ≡ [])
  inferred_nothing ds ds' p q same = through p q (λ s. tt) same

  pub inferred_match : (b : Bool) (F G : List Effect → Type 0) → Tells F F → Tells G G →
      Tells (λ ds. MatchBool b (F ds) (G ds)) (λ ds. MatchBool b (F ds) (G ds))
  inferred_match true F G f g ds ds' x y same = f ds ds' x y same
  inferred_match false F G f g ds ds' x y same = g ds ds' x y same

  pub inferred_looked : (P : ℕ → List Effect → Type 0) → ((g : ℕ) → Tells (P g) (P g)) → Tells (Looked P) (Looked P)
  inferred_looked P tells ds ds' f f' same =
      through f.2 f'.2
      (λ s. let Q : ℕ → Type 0 = λ g. P g f'.1 in (tt, tells f.0 f.1 f'.1 f.3 (subst Q (sym s.0) f'.3) s.1))
      same

  pub inferred_either : (F G F' G' : List Effect → Type 0) → Tells F F' → Tells F G' → Tells G F' → Tells G G' →
      Tells (λ ds. F ds ⊎ G ds) (λ ds. F' ds ⊎ G' ds)
  inferred_either F G F' G' a b c d ds ds' (inl x) (inl y) same = a ds ds' x y same
  inferred_either F G F' G' a b c d ds ds' (inl x) (inr y) same = b ds ds' x y same
  inferred_either F G F' G' a b c d ds ds' (inr x) (inl y) same = c ds ds' x y same
  inferred_either F G F' G' a b c d ds ds' (inr x) (inr y) same = d ds ds' x y same
