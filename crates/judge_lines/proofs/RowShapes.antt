-- Effects have the kinds of a row exactly if they are looks and visits of these kinds, in the row's order.
use Rattle.std.proofs.Common.{◌≡◌, ℕ, ◌≤◌, Bool, true, false, List, [], ◌∷◌, refl, subst, ap, ◌∙◌, arith}
use Rattle.std.specs.Prelude.{◌==◌, ⊤, if◌then◌else◌}
use Rattle.std.proofs.lemmas.Bool.Decides.{nat_tests}
use Rattle.key_names.specs.declared.entries.BaseEntry.{BaseEntry}
use Rattle.key_names.specs.declared.entries.BaseEntry.TheVariants.{Resume}
use Rattle.key_names.specs.Callers.Effects.{Effect, looked, at_pool, at_base, at_cpu, nothing_there, PoolVisit, BaseVisit, CpuVisit}
use Rattle.key_names.proofs.Unique.UniqueAttempts.{not_zero}
use Rattle.judge_lines.specs.declared.kind.Kind.{Kind}
use Rattle.judge_lines.specs.declared.kind.Kind.TheVariants.{Unready, Ready, Pool, Base, Resumed, Cpu, OtherCpu}
use Rattle.judge_lines.specs.Kinds.{look_kind, base_kind, cpu_kind, kind_of, kinds_of}

pub is_zero : (g : ℕ) → g ≡ 0 → (g == 0) ≡ true
is_zero g p = grind (arith, nat_tests)

module _ (cpu : ℕ) where
  -- the content of a step of this kind: the generation that a look found, or the visit
  abbrev pub One : Kind → Type 0
  One Unready = (g : ℕ) × (g ≡ 0)
  One Ready = (g : ℕ) × (1 ≤ g)
  One Pool = PoolVisit
  One Base = (v : BaseVisit) × (base_kind v.entry ≡ Base)
  One Resumed = (v : BaseVisit) × (base_kind v.entry ≡ Resumed)
  One Cpu = (v : CpuVisit) × (v.cpu ≡ cpu)
  One OtherCpu = (d : Effect) × (kind_of cpu d ≡ OtherCpu)

  abbrev pub effect : (k : Kind) → One k → Effect
  effect Unready x = looked x.0
  effect Ready x = looked x.0
  effect Pool x = at_pool x
  effect Base x = at_base x.0
  effect Resumed x = at_base x.0
  effect Cpu x = at_cpu x.0
  effect OtherCpu x = x.0

  abbrev pub Shape : List Kind → Type 0
  Shape [] = ⊤
  Shape (k ∷ ks) = One k × Shape ks

  abbrev pub effects_in : (ks : List Kind) → Shape ks → List Effect
  effects_in [] s = []
  effects_in (k ∷ ks) s = effect k s.0 ∷ effects_in ks s.1

  -- ---- steps of given kinds are looks and visits of these kinds

  abbrev IsOne : Effect → Kind → Type 0
  IsOne d k = (x : One k) × (d ≡ effect k x)

  look_one : (g : ℕ) → IsOne (looked g) (look_kind g)
  look_one g = go (g == 0) refl
    where
      go : (b : Bool) → (g == 0) ≡ b → IsOne (looked g) (if b then Unready else Ready)
      go true p = ((g, grind (arith, nat_tests)), refl)
      go false p = ((g, grind (arith, nat_tests)), refl)

  base_one : (v : BaseVisit) (e : BaseEntry) → base_kind v.entry ≡ base_kind e → IsOne (at_base v) (base_kind e)
  base_one v Resume p = ((v, p), refl)
  base_one v _ p = ((v, p), refl)

  cpu_one : (v : CpuVisit) (b : Bool) → (v.cpu == cpu) ≡ b → IsOne (at_cpu v) (cpu_kind b)
  cpu_one v true p = ((v, grind (arith, nat_tests)), refl)
  cpu_one v false p = ((at_cpu v, ap cpu_kind p), refl)

  one : (d : Effect) → IsOne d (kind_of cpu d)
  one (looked g) = look_one g
  one (at_pool v) = (v, refl)
  one (at_base v) = base_one v v.entry refl
  one (at_cpu v) = cpu_one v (v.cpu == cpu) refl
  one nothing_there = ((nothing_there, refl), refl)

  first_kind : {X : Type 0} (x y : X) (xs ys : List X) → x ∷ xs ≡ y ∷ ys → x ≡ y
  first_kind x y xs ys e = cc

  other_kinds : {X : Type 0} (x y : X) (xs ys : List X) → x ∷ xs ≡ y ∷ ys → xs ≡ ys
  other_kinds x y xs ys e = cc

  both : {X : Type 0} (x y : X) (xs ys : List X) → x ≡ y → xs ≡ ys → x ∷ xs ≡ y ∷ ys
  both x y xs ys p q = cc

  pub shaped : (ks : List Kind) (ds : List Effect) → kinds_of cpu ds ≡ ks → (s : Shape ks) × (ds ≡ effects_in ks s)
  shaped [] [] p = (tt, refl)
  shaped [] (d ∷ ds) p = cc
  shaped (k ∷ ks) [] p = cc
  shaped (k ∷ ks) (d ∷ ds) p =
      let P : Kind → Type 0 = λ k. IsOne d k in
      let x : IsOne d k = subst P (first_kind (kind_of cpu d) k (kinds_of cpu ds) ks p) (one d) in
      let r = shaped ks ds (other_kinds (kind_of cpu d) k (kinds_of cpu ds) ks p) in
      ((x.0, r.0), both d (effect k x.0) ds (effects_in ks r.0) x.1 r.1)

  -- ---- looks and visits of given kinds have these kinds

  pub look_kind_is : (g : ℕ) (b : Bool) → (g == 0) ≡ b → look_kind g ≡ (if b then Unready else Ready)
  look_kind_is g b p = ap (λ b. if b then Unready else Ready) p

  pub effect_kind : (k : Kind) (x : One k) → kind_of cpu (effect k x) ≡ k
  effect_kind Unready x = look_kind_is x.0 true (is_zero x.0 x.1)
  effect_kind Ready x = look_kind_is x.0 false (not_zero x.0 x.1)
  effect_kind Pool x = refl
  effect_kind Base x = x.1
  effect_kind Resumed x = x.1
  effect_kind Cpu x =
      (let p : x.0.cpu ≡ cpu = x.1 in let q : (x.0.cpu == cpu) ≡ true = grind (arith, nat_tests) in ap cpu_kind q)
  effect_kind OtherCpu x = x.1

  pub kinds_in : (ks : List Kind) (s : Shape ks) → kinds_of cpu (effects_in ks s) ≡ ks
  kinds_in [] s = refl
  kinds_in (k ∷ ks) s =
      both (kind_of cpu (effect k s.0)) k (kinds_of cpu (effects_in ks s.1)) ks (effect_kind k s.0) (kinds_in ks s.1)

  -- if `ds` are looks and visits of the kinds `ks`, their kinds are `ks`
  pub row_of : (ks : List Kind) (s : Shape ks) {ds : List Effect} → ds ≡ effects_in ks s → kinds_of cpu ds ≡ ks
  row_of ks s {ds = ds} is = ap (kinds_of cpu) is ∙ kinds_in ks s
