-- The generation that a pass has seen (`floor`) never falls, from look to look and from visit to visit.
use Rattle.std.proofs.Common.{◌≡◌, ◌≢◌, ℕ, suc, ◌<◌, ◌≤◌, List, [], ◌∷◌, ◌++◌, length, take, sym, refl, ap, ◌∙◌, subst, arith, le_refl, length-append}
use Rattle.std.specs.Prelude.{⊤}
use Rattle.std.specs.List.{fold}
use Rattle.std.proofs.lemmas.List.{take-append-le, take_all}
use mathlib.Core.Logic.{dite}
use native.Mathlib.Decide.{ℕ_discrete, dec_le}
use Rattle.key_names.specs.Lanes.LawfulList.{LawfulFrom}
use Rattle.key_names.specs.declared.names.Mark.{Mark}
use Rattle.base_gen.specs.BaseValue.{BaseValue}
use Rattle.lane_table.specs.declared.view.Handed.{Handed}
use Rattle.lane_table.specs.declared.view.LaneEntry.{LaneEntry}
use Rattle.lane_table.specs.declared.view.LaneEntry.TheVariants.{Pool, Base, Cpu}
use Rattle.lane_table.specs.declared.view.LaneView.{LaneView}
use Rattle.lane_table.specs.declared.view.Visit.{Visit}
use Rattle.lane_table.specs.declared.view.View.{View}
use Rattle.lane_table.specs.LaneNumbers.{index_of}
use Rattle.lane_table.specs.Meaning.{CpuModel, Model, IsOf, LawfulLane, MayCome, made_of, model_step, replay, start_model}
use Rattle.lane_table.specs.References.{Pointed}
use Rattle.lane_table.specs.WorldRule.{Consistent, known_of}
use Rattle.lane_table.specs.Steps.{Grows, Seated}
use Rattle.lane_table.specs.Calls.{Added, Looked}
use Rattle.lane_table.specs.Advances.{MadeStep, looked, visited, AllConform, Sees, floor, generation_of}
use Rattle.lane_table.proofs.Rule.Floors.{floor_grown}
use Rattle.lane_table.proofs.Lists.LawfulLists.{base_generation, cpu_below}
use Rattle.lane_table.proofs.Lists.Lists.{at_below}
use Rattle.lane_table.proofs.Rule.Naming.{parent_cpu}

-- The generation of each lane's value is one that the base has had

kept : {A : Type 0} (f : Model → A) (n i : ℕ) →
    ((s : Model) (e : LaneEntry) (got : Handed) → IsOf i e → f (made_of s e got) ≡ f s) →
    (xs : List Visit) (s : Model) → LawfulFrom (MayCome n i) model_step s xs → f (fold model_step s xs) ≡ f s
kept f n i keeps [] s lawful = refl
kept f n i keeps (x ∷ xs) s lawful =
    kept f n i keeps xs (model_step s x) lawful.1 ∙ keeps s x.entry x.got lawful.0.kind

base_kept : (i : ℕ) → i ≢ 1 → (s : Model) (e : LaneEntry) (got : Handed) → IsOf i e →
    (made_of s e got).base ≡ s.base
base_kept i other s (Pool e) got is = refl
base_kept i other s (Base e) got is = absurd (other is)
base_kept i other s (Cpu e) got is = refl

cpu_kept : (i : ℕ) → i < 2 → (s : Model) (e : LaneEntry) (got : Handed) → IsOf i e →
    (made_of s e got).cpu ≡ s.cpu
cpu_kept i low s (Pool e) got is = refl
cpu_kept i low s (Base e) got is = refl
cpu_kept i low s (Cpu e) got is = absurd (omega arith)

of_base : (n i : ℕ) (xs : List Visit) → i ≢ 1 → LawfulLane n i xs → (replay xs).base.generation ≡ 0
of_base n i xs other lawful =
    kept (λ (s : Model). s.base.generation) n i
    (λ s e got is. ap (λ (b : BaseValue). b.generation) (base_kept i other s e got is)) xs start_model lawful

of_cpu : (n i : ℕ) (xs : List Visit) → i < 2 → LawfulLane n i xs → (replay xs).cpu.cpu.generation ≡ 0
of_cpu n i xs low lawful =
    kept (λ (s : Model). s.cpu.cpu.generation) n i
    (λ s e got is. ap (λ (m : CpuModel). m.cpu.generation) (cpu_kept i low s e got is)) xs start_model lawful

module _ (v : View) (two : 1 < length v.lanes) (c : Consistent v) (lane : ℕ) (near : lane < length v.lanes) where
  abbrev n : ℕ
  n = length v.lanes

  abbrev base : List Visit
  base = known_of v 1

  cpu_known : (replay (known_of v lane)).cpu.cpu.generation ≤ (replay base).base.generation
  cpu_known = dite (dec_le 2 lane)
      (λ high. let b = cpu_below n lane base (known_of v lane) (c.lawful 1 two)
      (subst (λ (l : ℕ). Pointed lane (known_of v l) (known_of v lane)) (parent_cpu lane high)
      (c.closed lane (omega arith) near)) in
      let e = base_generation base in omega arith)
      (λ low. let e = of_cpu n lane (known_of v lane) (omega arith) (c.lawful lane near) in omega arith)

  base_known : (replay (known_of v lane)).base.generation ≤ (replay base).base.generation
  base_known = dite (ℕ_discrete lane 1)
      (λ e. subst (λ (l : ℕ). (replay (known_of v l)).base.generation ≤ (replay base).base.generation) (sym e)
      (le_refl (replay base).base.generation))
      (λ other. let e = of_base n lane (known_of v lane) other (c.lawful lane near) in omega arith)

  pub lane_known : generation_of (replay (known_of v lane)) ≤ floor v
  lane_known = let a = cpu_known in let b = base_known in omega arith

-- The generation that a pass has seen, before and after one call of the table

module _ (m m' : Seated) (two : 1 < length m.0.lanes) where
  pub sees_looked : (g : ℕ) → Looked g m m' → Sees m'.0 (floor m.0) (looked g ∷ []) (floor m'.0)
  sees_looked g k = let a = k.not_less in let b = k.base in let s = k.seen in (omega arith, omega arith)

  pub sees_put : (x : Visit) (mark : Mark) (e : LaneEntry) → index_of mark.lane < length m.0.lanes →
      mark.place ≡ length (known_of m.0 (index_of mark.lane)) → Added (index_of mark.lane) x m m' →
      Sees m'.0 (floor m.0) (visited mark e ∷ []) (floor m'.0)
  sees_put x mark e near there k = let lane : ℕ = index_of mark.lane in let s = k.same.sized in
      let more : known_of m'.0 lane ≡ known_of m.0 lane ++ x ∷ [] =
      ap (λ (a : LaneView). a.known) k.here in
      let whole : take (suc mark.place) (known_of m'.0 lane) ≡ known_of m'.0 lane =
      take_all (suc mark.place) (known_of m'.0 lane)
      (let long = ap length more in omega (arith, length-append (known_of m.0 lane) (x ∷ []))) in (
        floor m'.0,
        floor_grown m.0 m'.0 two k.grows (let e = k.seen in omega arith),
        subst (λ (l : List Visit). generation_of (replay l) ≤ floor m'.0) (sym whole)
            (lane_known m'.0 (omega arith) k.consistent lane (omega arith)),
        le_refl (floor m'.0),
      )

-- The generation that a pass has seen, over successive calls

pub sees_up : (w : View) (low high : ℕ) (made_steps : List MadeStep) → Sees w low made_steps high → low ≤ high
sees_up w low high [] s = s
sees_up w low high (looked g ∷ made_steps) s = let a = s.0 in let b = sees_up w g high made_steps s.1 in omega arith
sees_up w low high (visited mark e ∷ made_steps) s = let a = s.1 in let b = sees_up w s.0 high made_steps s.3 in
    omega arith

pub sees_append : (w : View) (low mid high : ℕ) (xs ys : List MadeStep) → Sees w low xs mid → Sees w mid ys high →
    Sees w low (xs ++ ys) high
sees_append w low mid high [] [] a b = omega arith
sees_append w low mid high [] (looked g ∷ ys) a b = (let lt = b.0 in omega arith, b.1)
sees_append w low mid high [] (visited mark e ∷ ys) a b = (b.0, (let lt = b.1 in omega arith), b.2, b.3)
sees_append w low mid high (looked g ∷ xs) ys a b = (a.0, sees_append w g mid high xs ys a.1 b)
sees_append w low mid high (visited mark e ∷ xs) ys a b =
    (a.0, a.1, a.2, sees_append w a.0 mid high xs ys a.3 b)

-- each visit of the steps is in the known list of its lane
abbrev pub AllKnown : View → List MadeStep → Type 0
AllKnown v [] = ⊤
AllKnown v (looked g ∷ made_steps) = AllKnown v made_steps
AllKnown v (visited mark e ∷ made_steps) = (index_of mark.lane < length v.lanes)
    × (mark.place < length (known_of v (index_of mark.lane))) × AllKnown v made_steps

pub conform_known : (v : View) (caller event n : ℕ) (made_steps : List MadeStep) → AllConform v caller event n made_steps →
    AllKnown v made_steps
conform_known v caller event n [] k = tt
conform_known v caller event n (looked g ∷ made_steps) k = conform_known v caller event (suc n) made_steps k
conform_known v caller event n (visited mark e ∷ made_steps) k = (
  k.0.near,
  at_below (known_of v (index_of mark.lane)) mark.place k.0.visit k.0.there,
  conform_known v caller event (suc n) made_steps k.1,
)

-- if `Sees` holds for a view that knows the visits of the steps, it still holds when the view knows more of the lists
pub sees_grown : (v w : View) (low high : ℕ) (made_steps : List MadeStep) → Grows v w → AllKnown v made_steps →
    Sees v low made_steps high → Sees w low made_steps high
sees_grown v w low high [] grows known s = s
sees_grown v w low high (looked g ∷ made_steps) grows known s =
    (s.0, sees_grown v w g high made_steps grows known s.1)
sees_grown v w low high (visited mark e ∷ made_steps) grows known s =
    let lane : ℕ = index_of mark.lane in let more = grows lane known.0 in let within = known.1 in
    let same : take (suc mark.place) (known_of w lane) ≡ take (suc mark.place) (known_of v lane) =
    ap (take (suc mark.place)) more.1 ∙ take-append-le (suc mark.place) (known_of v lane) more.0 (omega arith) in (
      s.0,
      s.1,
      subst (λ (l : List Visit). generation_of (replay l) ≤ s.0) (sym same) s.2,
      sees_grown v w s.0 high made_steps grows known.2 s.3,
    )
