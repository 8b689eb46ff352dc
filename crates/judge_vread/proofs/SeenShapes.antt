-- Seen steps (kinds, found generations and keys) are turned into looks and visits, and looks and visits into seen
-- steps.
use Rattle.std.proofs.Common.{◌≡◌, ℕ, ◌≤◌, true, false, List, [], ◌∷◌, refl, sym, subst, ap, arith}
use Rattle.std.specs.Prelude.{◌==◌, ⊤, map}
use Rattle.std.proofs.lemmas.Bool.Decides.{nat_tests}
use Rattle.key_names.specs.declared.entries.BaseEntry.TheVariants.{Resume}
use Rattle.key_names.specs.Callers.Effects.{Effect, looked, at_pool, at_base, at_cpu, nothing_there, PoolVisit, BaseVisit, CpuVisit}
use Rattle.key_names.specs.Callers.Effects.{base_serves}
use Rattle.key_names.proofs.Unique.UniqueAttempts.{not_zero}
use Rattle.judge_lines.specs.declared.kind.Kind.TheVariants.{Base as BaseKind}
use Rattle.judge_lines.specs.Kinds.{base_kind, cpu_kind, kind_of, kinds_of}
use Rattle.judge_lines.proofs.RowShapes.{is_zero, look_kind_is}
use Rattle.judge_vread.specs.declared.seen.SeenStep.{SeenStep}
use Rattle.judge_vread.specs.declared.seen.SeenStep.TheVariants.{Unready, Ready, Pool, Base, Resumed, Cpu, Elsewhere}
use Rattle.judge_vread.specs.Seen.{seen_kind, ServesBy, IsSeen, AllSeen}

module _ (cpu : ℕ) where
  pub record InBase (key : List ℕ) : Type 0 where
    pub v : BaseVisit
    pub kind : base_kind v.entry ≡ BaseKind
    pub serves : v.serves ≡ base_serves key v.entry

  pub record Resuming : Type 0 where
    pub v : BaseVisit
    pub entry : v.entry ≡ Resume
    pub serves : v.serves ≡ []

  pub record OnCpu (key : List ℕ) : Type 0 where
    pub v : CpuVisit
    pub on : v.cpu ≡ cpu
    pub serves : ServesBy key v.entry v.serves

  -- the shape of a seen step: what determines the look or visit that it shows
  abbrev pub One : SeenStep → Type 0
  One Unready = ⊤
  One (Ready g) = 1 ≤ g
  One Pool = PoolVisit
  One (Base key) = InBase key
  One Resumed = Resuming
  One (Cpu key) = OnCpu key
  One Elsewhere = (d : Effect) × IsSeen cpu Elsewhere d

  abbrev pub effect : (x : SeenStep) → One x → Effect
  effect Unready p = looked 0
  effect (Ready g) p = looked g
  effect Pool p = at_pool p
  effect (Base key) p = at_base p.v
  effect Resumed p = at_base p.v
  effect (Cpu key) p = at_cpu p.v
  effect Elsewhere p = p.0

  abbrev pub Shape : List SeenStep → Type 0
  Shape [] = ⊤
  Shape (x ∷ xs) = One x × Shape xs

  abbrev pub effects_in : (seen : List SeenStep) → Shape seen → List Effect
  effects_in [] s = []
  effects_in (x ∷ xs) s = effect x s.0 ∷ effects_in xs s.1

  one : (x : SeenStep) (d : Effect) → IsSeen cpu x d → (p : One x) × (d ≡ effect x p)
  one Unready (looked g) h = (tt, ap looked h)
  one (Ready found) (looked g) h = (h.1, ap looked h.0)
  one Pool (at_pool v) h = (v, refl)
  one (Base key) (at_base v) h = (record { v = v; kind = h.0; serves = h.1 }, refl)
  one Resumed (at_base v) h = (record { v = v; entry = h.0; serves = h.1 }, refl)
  one (Cpu key) (at_cpu v) h = (record { v = v; on = h.0; serves = h.1 }, refl)
  one Elsewhere d h = ((d, h), refl)
  one _ _ h = absurd h

  both : (x y : Effect) (xs ys : List Effect) → x ≡ y → xs ≡ ys → x ∷ xs ≡ y ∷ ys
  both x y xs ys p q = cc

  pub shaped : (seen : List SeenStep) (ds : List Effect) → AllSeen cpu seen ds → (s : Shape seen) × (ds ≡ effects_in seen s)
  shaped [] [] h = (tt, refl)
  shaped [] (d ∷ ds) h = absurd h
  shaped (x ∷ xs) [] h = absurd h
  shaped (x ∷ xs) (d ∷ ds) h =
      let p = one x d h.0 in
      let r = shaped xs ds h.1 in ((p.0, r.0), both d (effect x p.0) ds (effects_in xs r.0) p.1 r.1)

  kind_seen : (x : SeenStep) (d : Effect) → IsSeen cpu x d → kind_of cpu d ≡ seen_kind x
  kind_seen Unready (looked g) h = look_kind_is cpu g true (is_zero g h)
  kind_seen (Ready found) (looked g) h =
      let P : ℕ → Type 0 = λ n. 1 ≤ n in look_kind_is cpu g false (not_zero g (subst P (sym h.0) h.1))
  kind_seen Pool (at_pool v) h = refl
  kind_seen (Base key) (at_base v) h = h.0
  kind_seen Resumed (at_base v) h = ap base_kind h.0
  kind_seen (Cpu key) (at_cpu v) h =
      (let p : v.cpu ≡ cpu = h.0 in let q : (v.cpu == cpu) ≡ true = grind (arith, nat_tests) in ap cpu_kind q)
  kind_seen Elsewhere (at_cpu v) h = ap cpu_kind h
  kind_seen Elsewhere nothing_there h = refl
  kind_seen _ _ h = absurd h

  pub kinds_seen : (seen : List SeenStep) (ds : List Effect) → AllSeen cpu seen ds → kinds_of cpu ds ≡ map seen_kind seen
  kinds_seen [] [] h = refl
  kinds_seen [] (d ∷ ds) h = absurd h
  kinds_seen (x ∷ xs) [] h = absurd h
  kinds_seen (x ∷ xs) (d ∷ ds) h = let p = kind_seen x d h.0 in let q = kinds_seen xs ds h.1 in cc

  -- a seen step shows the look or visit that its shape determines
  one_seen : (x : SeenStep) (p : One x) → IsSeen cpu x (effect x p)
  one_seen Unready p = refl
  one_seen (Ready g) p = (refl, p)
  one_seen Pool p = tt
  one_seen (Base key) p = (p.kind, p.serves)
  one_seen Resumed p = (p.entry, p.serves)
  one_seen (Cpu key) p = (p.on, p.serves)
  one_seen Elsewhere p = p.1

  pub shape_seen : (seen : List SeenStep) (s : Shape seen) → AllSeen cpu seen (effects_in seen s)
  shape_seen [] s = tt
  shape_seen (x ∷ xs) s = (one_seen x s.0, shape_seen xs s.1)

  -- ---- the seen step of a look or visit

  pub record SeenLook (g : ℕ) (seen : List SeenStep) (rest : List Effect) : Type 0 where
    pub following : List SeenStep
    pub is : seen ≡ Ready g ∷ following
    pub sees : AllSeen cpu following rest

  pub look_seen : (g : ℕ) (seen : List SeenStep) (rest : List Effect) → 1 ≤ g → AllSeen cpu seen (looked g ∷ rest) →
      SeenLook g seen rest
  look_seen g [] rest some h = absurd h
  look_seen g (Unready ∷ xs) rest some h =
      let none : g ≡ 0 = h.0 in absurd (omega arith)
  look_seen g (Ready found ∷ xs) rest some h =
      record { following = xs; is = ap (λ n. Ready n ∷ xs) (sym h.0.0); sees = h.1 }
  look_seen g (x ∷ xs) rest some h = absurd h.0

  pub record SeenCpu (v : CpuVisit) (seen : List SeenStep) (rest : List Effect) : Type 0 where
    pub key : List ℕ
    pub following : List SeenStep
    pub is : seen ≡ Cpu key ∷ following
    pub serves : ServesBy key v.entry v.serves
    pub sees : AllSeen cpu following rest

  pub cpu_seen : (v : CpuVisit) (seen : List SeenStep) (rest : List Effect) → v.cpu ≡ cpu →
      AllSeen cpu seen (at_cpu v ∷ rest) → SeenCpu v seen rest
  cpu_seen v [] rest on h = absurd h
  cpu_seen v (Cpu key ∷ xs) rest on h = record { key = key; following = xs; is = refl; serves = h.0.1; sees = h.1 }
  cpu_seen v (Elsewhere ∷ xs) rest on h =
      (let other : (v.cpu == cpu) ≡ false = h.0 in
      let same : (v.cpu == cpu) ≡ true = grind (arith, nat_tests) in absurd cc)
  cpu_seen v (x ∷ xs) rest on h = absurd h.0

  pub record SeenBase (seen : List SeenStep) (rest : List Effect) : Type 0 where
    pub key : List ℕ
    pub following : List SeenStep
    pub is : seen ≡ Base key ∷ following
    pub sees : AllSeen cpu following rest

  pub base_seen : (v : BaseVisit) (seen : List SeenStep) (rest : List Effect) → base_kind v.entry ≡ BaseKind →
      AllSeen cpu seen (at_base v ∷ rest) → SeenBase seen rest
  base_seen v [] rest kind h = absurd h
  base_seen v (Base key ∷ xs) rest kind h = record { key = key; following = xs; is = refl; sees = h.1 }
  base_seen v (Resumed ∷ xs) rest kind h = let other = ap base_kind h.0.0 in absurd cc
  base_seen v (x ∷ xs) rest kind h = absurd h.0

  pub seen_nothing : (seen : List SeenStep) → AllSeen cpu seen [] → seen ≡ []
  seen_nothing [] h = refl
  seen_nothing (x ∷ xs) h = absurd h

  pub see_at : (seen : List SeenStep) {ds xs : List Effect} → ds ≡ xs → AllSeen cpu seen ds → AllSeen cpu seen xs
  see_at seen {ds = ds} {xs = xs} p h = let P : List Effect → Type 0 = λ x. AllSeen cpu seen x in subst P p h
