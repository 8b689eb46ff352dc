-- The data that the code keeps about a line's steps agree with the effects of these steps.
use Rattle.std.proofs.Common.{◌≡◌, ℕ, zero, suc, ◌+◌, ◌*◌, ◌/◌, ◌<◌, ◌≤◌, Bool, true, false, List, [], ◌∷◌, length, take, refl, sym, subst, ap, ◌∙◌, arith, Some, None, inl, inr, ◌⊎◌}
use Rattle.std.specs.Prelude.{◌==◌, ◌||◌, not, ⊤, Option, slice_get, unwrap_or, nat_le, nat_lt, if◌then◌else◌}
use Rattle.std.proofs.Math.Nat.{zero-mul, mul-zero, mul-suc, mul-div-le, mul-le-mul_left}
use Rattle.std.proofs.lemmas.Grind.{common_steps}
use Rattle.std.proofs.lemmas.Option.{slice_get-map}
use Rattle.std.proofs.lemmas.List.{length-map}
use Rattle.std.specs.Option.{option_map}
use Rattle.std.specs.Global.{Vec}
use Rattle.std.proofs.lemmas.Bool.Decides.{nat_tests}
use Rattle.key_names.specs.declared.names.LaneId.{LaneId}
use Rattle.key_names.specs.declared.names.LaneId.TheVariants.{Pool as PoolLane, Base as BaseLane, Cpu as CpuLane}
use Rattle.key_names.specs.declared.names.Step.{Step}
use Rattle.key_names.specs.declared.names.Step.TheVariants.{Look, Visit as Marked}
use Rattle.key_names.specs.declared.entries.Taken.{Taken}
use Rattle.key_names.specs.declared.entries.Taken.TheVariants.{User, Kernel}
use Rattle.key_names.specs.declared.entries.BaseEntry.{BaseEntry}
use Rattle.key_names.specs.declared.entries.BaseEntry.TheVariants.{Draw}
use Rattle.key_names.specs.declared.entries.CpuEntry.{CpuEntry}
use Rattle.key_names.specs.declared.entries.CpuEntry.TheVariants.{Read, Int}
use Rattle.key_names.specs.Lanes.Book.{Lists, cpu_list, list_at}
use Rattle.key_names.specs.Kernel.Batches.{Fill, batched_int, must_fill}
use Rattle.key_names.specs.Lanes.BaseList.{base_erases}
use Rattle.key_names.specs.Lanes.CpuList.{CpuState, CpuFits}
use Rattle.key_names.specs.Keys.KeyInUse.{zero_key, taken_bytes, base_value_at, base_value_after, base_value_in_use, cpu_used_at}
use Rattle.key_names.specs.Keys.KeyInUse.{cpu_value_at, cpu_value_after, next_int}
use Rattle.key_names.specs.Callers.Effects.{Effect, looked, at_pool, at_base, at_cpu, nothing_there, BaseVisit, CpuVisit}
use Rattle.key_names.specs.Callers.Effects.{base_serves, cpu_serves, int_of, base_visit, cpu_visit, effect_at, effect_of, effects_of}
use Rattle.key_names.specs.Callers.Effects.{effect_or}
use Rattle.key_names.proofs.Lists.ListFacts.{list_is}
use Rattle.judge_lines.specs.LaneFacts.{facts_of, EffectFits}
use Rattle.judge_log.specs.declared.kept.KeptBase.{KeptBase}
use Rattle.judge_log.specs.declared.kept.KeptCpu.{KeptCpu}
use Rattle.judge_log.specs.declared.kept.Lists.{Lists as KeptLists}
use Rattle.judge_log.specs.declared.kept.BytesSource.{BytesSource}
use Rattle.judge_log.specs.Places.{AllKept}
use Rattle.judge_log.specs.Kept.{KeepsPool, KeepsCpu, Keeps, source_in, source_of}
use Rattle.judge_vread.specs.Recipe.{bytes_made, no_recipe, int_recipe}
use Rattle.judge_vread.specs.Seen.{ServesBy}
use Rattle.judge_vread.proofs.CalledSays.{user_bytes}
use Rattle.judge_log.specs.declared.met.KeptStep.{KeptStep}
use Rattle.judge_log.specs.declared.met.KeptStep.TheVariants.{Looked, InPool, InBase, InCpu, Nothing}
use Rattle.judge_log.specs.Met.{lane_met, mark_met, met_at, met_in}
use Rattle.judge_log.specs.EventSays.{taken_recipe, base_recipe, cpu_recipe}

-- ---- the bytes that a visit serves

taken_made : (key : List ℕ) (taken : Taken) → taken_bytes key taken ≡ bytes_made (taken_recipe key taken)
taken_made key (User n) = sym (user_bytes key n)
taken_made key (Kernel n) = refl

-- `k` has the right data about the visit `v` of the base
pub record MetBase (k : KeptBase) (v : BaseVisit) : Type 0 where
  pub entry : k.entry ≡ v.entry
  pub serves : v.serves ≡ base_serves (unwrap_or k.key zero_key) v.entry
  pub bytes : bytes_made (base_recipe k.entry k.key) ≡ v.serves

abbrev BaseServes : BaseEntry → Option (List ℕ) → List ℕ → Type 0
BaseServes e key used =
    (base_serves used e ≡ base_serves (unwrap_or key zero_key) e) × (bytes_made (base_recipe e key) ≡ base_serves used e)

base_made : (e : BaseEntry) (key : Option (List ℕ)) (used : List ℕ) →
    key ≡ (if base_erases e then Some used else None) → BaseServes e key used
base_made (Draw root taken) key used h =
    subst (λ k. BaseServes (Draw root taken) k used) (sym h) (refl, sym (taken_made used taken))
base_made _ key used h = (refl, refl)

-- `k` has the right data about the visit `v` of a CPU
pub record MetCpu (k : KeptCpu) (v : CpuVisit) : Type 0 where
  pub entry : k.entry ≡ v.entry
  pub serves : ServesBy (unwrap_or k.source.key zero_key) v.entry v.serves
  pub bytes : bytes_made (cpu_recipe k.entry k.source.key k.source.served) ≡ v.serves

not_used_up : (n count : ℕ) (b : Bool) → nat_le n count || b ≡ false → suc count ≤ n
not_used_up n count b h = (let low : count < n = grind (arith, common_steps) in omega arith)

short_batch : (width count : ℕ) → suc count ≤ 96 / width → width * count < 96
short_batch zero count low = omega (arith, zero-mul count)
short_batch (suc w) count low =
    let most : suc w * (96 / suc w) ≤ 96 = mul-div-le 96 (suc w) in
    let more : suc w * suc count ≤ suc w * (96 / suc w) = mul-le-mul_left (suc w) low in
    let is : suc w * suc count ≡ suc w * count + suc w = mul-suc (suc w) count in omega arith

-- if an integer need not fill its batch, the batch has served fewer than 96 of its 96 bytes
has_bytes : (look width : ℕ) (fill : Fill) → false ≡ must_fill look width (Some fill) → nat_lt (width * fill.count) 96 ≡ true
has_bytes look width fill h =
    let low : width * fill.count < 96 =
    short_batch width fill.count (not_used_up (96 / width) fill.count (not (look == fill.look)) (sym h)) in
    grind (arith, nat_tests)

module _ (book : Lists) (c : ℕ) (fills : ℕ → Option Fill) (place : ℕ) where
  abbrev used : ℕ → List ℕ
  used k = cpu_used_at book c k

  abbrev CpuServes : CpuEntry → BytesSource → Type 0
  CpuServes e s =
      ServesBy (unwrap_or s.key zero_key) e (cpu_serves book c fills (used place) e)
      × (bytes_made (cpu_recipe e s.key s.served) ≡ cpu_serves book c fills (used place) e)

  int_made : (look width : ℕ) (refill : Option ℕ) (fill : Option Fill) → false ≡ must_fill look width fill →
      bytes_made (cpu_recipe (Int look refill width false) (source_in used fill).key (source_in used fill).served)
      ≡ int_of book c width fill
  int_made look width refill None h = refl
  int_made look width refill (Some fill) h =
      let P : Bool → Type 0 = λ b. bytes_made (if b then int_recipe (used fill.place) width fill.count else no_recipe)
      ≡ next_int book c width fill in subst P (sym (has_bytes look width fill h)) refl

  cpu_made : (s : CpuState) (e : CpuEntry) → s.fills ≡ fills → CpuFits s e → CpuServes e (source_of used fills place e)
  cpu_made s (Read look refill taken) same fit = (refl, sym (taken_made (used place) taken))
  cpu_made s (Int look refill width true) same fit =
      let P : ℕ → Type 0 = λ n. bytes_made (if nat_lt n 96 then int_recipe (used place) width 0 else no_recipe)
      ≡ batched_int (used place) width 0 in (tt, subst P (sym (mul-zero width)) refl)
  cpu_made s (Int look refill width false) same fit =
      (tt, int_made look width refill (fills width) (fit.fills ∙ ap (λ f. must_fill look width (f width)) same))
  cpu_made s _ same fit = (tt, refl)

-- ---- the kept data of one step

-- the data that the replay kept about a step match the step's effect, a look or a visit
abbrev pub IsMet : KeptStep → Effect → Type 0
IsMet (Looked g) (looked found) = g ≡ found
IsMet (InPool k) (at_pool v) = KeepsPool k v
IsMet (InBase k) (at_base v) = MetBase k v
IsMet (InCpu on k) (at_cpu v) = (on ≡ v.cpu) × MetCpu k v
IsMet Nothing nothing_there = ⊤
IsMet _ _ = ⊥

abbrev pub AreMet : List KeptStep → List Effect → Type 0
AreMet [] [] = ⊤
AreMet (m ∷ met) (d ∷ effects) = IsMet m d × AreMet met effects
AreMet _ _ = ⊥

-- if two lists have the same length, both have an element at place `i`, or both have none there
both_found : {K E : Type 0} (ks : List K) (es : List E) (i : ℕ) → length ks ≡ length es →
    (slice_get ks i ≡ None) × (slice_get es i ≡ None)
    ⊎ (k : K) × (e : E) × (slice_get ks i ≡ Some k) × (slice_get es i ≡ Some e)
both_found [] [] i long = inl (refl, refl)
both_found [] (e ∷ es) i long = absurd (omega arith)
both_found (k ∷ ks) [] i long = absurd (omega arith)
both_found (k ∷ ks) (e ∷ es) zero long = inr (k, e, refl, refl)
both_found (k ∷ ks) (e ∷ es) (suc i) long = both_found ks es i (omega arith)

unlisted : {E : Type 0} (xss : List (List E)) (c : ℕ) → slice_get xss c ≡ None → list_at xss c ≡ []
unlisted [] c is = refl
unlisted (ys ∷ xss) zero is = cc
unlisted (ys ∷ xss) (suc c) is = unlisted xss c is

module _ (kept : KeptLists) (book : Lists) (keeps : Keeps kept book)
    (fit : (step : Step) → EffectFits (facts_of book) (effect_of book step)) where
  pool_is : (place : ℕ) → IsMet (mark_met kept PoolLane place) (effect_at book PoolLane place)
  pool_is place = elim (both_found kept.pool.items book.pool place keeps.pool.count) [
    | inl none ↦ rw (none.0, none.1) tt
    | inr one ↦ rw (one.2, one.3) (keeps.pool.each place one.0 one.1 one.2 one.3)
  ]

  base_visit_is : (place : ℕ) (k : KeptBase) (e : BaseEntry) → slice_get kept.base.items place ≡ Some k →
      slice_get book.base place ≡ Some e → MetBase k (base_visit book place e)
  base_visit_is place k e kept_is is =
      let keeps_it = keeps.base.each place k e kept_is is in
      let before = base_value_after book.pool (take place book.base) in
      let made = base_made e k.key (base_value_in_use book.pool e before)
      (keeps_it.key ∙ ap (λ o. if base_erases e then Some (base_value_at book.pool before o) else None) is) in record {
        entry = keeps_it.entry;
        serves = made.0;
        bytes = ap (λ x. bytes_made (base_recipe x k.key)) keeps_it.entry ∙ made.1;
      }

  base_is : (place : ℕ) → IsMet (mark_met kept BaseLane place) (effect_at book BaseLane place)
  base_is place = elim (both_found kept.base.items book.base place keeps.base.count) [
    | inl none ↦ rw (none.0, none.1) tt
    | inr one ↦ rw (one.2, one.3) (base_visit_is place one.0 one.1 one.2 one.3)
  ]

  cpu_visit_is : (c place : ℕ) (k : KeptCpu) (e : CpuEntry) → KeepsCpu (cpu_used_at book c) k (cpu_visit book c place e) →
      slice_get (cpu_list book c) place ≡ Some e → CpuFits (cpu_visit book c place e).before e →
      MetCpu k (cpu_visit book c place e)
  cpu_visit_is c place k e keeps_it is fits =
      let v = cpu_visit book c place e in
      let before = cpu_value_after book (take place (cpu_list book c)) in
      let made = cpu_made book c v.before.fills place v.before e refl fits in
      let P : BytesSource → Type 0 = λ s. CpuServes book c v.before.fills place e s in
      let kept_made = subst P (sym keeps_it.source) made in
      let Q : List ℕ → Type 0 = λ u. ServesBy (unwrap_or k.source.key zero_key) e (cpu_serves book c v.before.fills u e)
      × (bytes_made (cpu_recipe e k.source.key k.source.served) ≡ cpu_serves book c v.before.fills u e) in
      let here = subst Q (ap (cpu_value_at book before) is) kept_made in record {
        entry = keeps_it.entry;
        serves = here.0;
        bytes = ap (λ x. bytes_made (cpu_recipe x k.source.key k.source.served)) keeps_it.entry ∙ here.1;
      }

  fits_at : (c place : ℕ) (e : CpuEntry) → slice_get (cpu_list book c) place ≡ Some e →
      CpuFits (cpu_visit book c place e).before e
  fits_at c place e is =
      let P : Option CpuEntry → Type 0 = λ o. EffectFits (facts_of book) (effect_or (λ x. at_cpu (cpu_visit book c place x)) o) in
      subst P is (fit (Marked (record { lane = CpuLane c; place = place; stamp = 0 })))

  abbrev InLane : ℕ → ℕ → List CpuEntry → Option (Vec KeptCpu) → Type 0
  InLane c place es o =
      IsMet (lane_met c place o) (effect_or (λ e. at_cpu (cpu_visit book c place e)) (slice_get es place))

  lane_is : (c place : ℕ) (lane : Vec KeptCpu) (es : List CpuEntry) → cpu_list book c ≡ es →
      AllKept (λ at k e. KeepsCpu (cpu_used_at book c) k (cpu_visit book c at e)) lane.items es →
      InLane c place es (Some lane)
  lane_is c place lane es list_is keeps_lane = elim (both_found lane.items es place keeps_lane.count) [
    | inl none ↦ rw (none.0, none.1) tt
    | inr one ↦
        (let is : slice_get (cpu_list book c) place ≡ Some one.1 = ap (λ xs. slice_get xs place) list_is ∙ one.3 in
        rw (one.2, one.3) (
          refl,
          cpu_visit_is c place one.0 one.1
              (keeps_lane.each place one.0 one.1 one.2 one.3) is (fits_at c place one.1 is),
        ))
  ]

  cpu_is : (c place : ℕ) → IsMet (mark_met kept (CpuLane c) place) (effect_at book (CpuLane c) place)
  cpu_is c place =
      let long : length kept.cpus.items ≡ length book.cpus =
      sym (length-map kept.cpus.items (λ (lane : Vec KeptCpu). lane.items)) ∙ keeps.cpus.count in
      elim (both_found kept.cpus.items book.cpus c long) [
        | inl none ↦
            (let P : Option (Vec KeptCpu) → List CpuEntry → Type 0 = λ o es. InLane c place es o in
            subst (λ o. P o (cpu_list book c)) (sym none.0)
            (subst (λ es. P None es) (sym (unlisted book.cpus c none.1)) tt))
        | inr one ↦
            (let P : Option (Vec KeptCpu) → List CpuEntry → Type 0 = λ o es. InLane c place es o in
            let listed = list_is book.cpus c one.1 one.3 in
            let items : Vec KeptCpu → List KeptCpu = λ lane. lane.items in
            let kept_is = slice_get-map items kept.cpus.items c ∙ ap (option_map items) one.2 in
            let lane = lane_is c place one.0 one.1 listed (keeps.cpus.each c one.0.items one.1 kept_is one.3) in
            subst (λ o. P o (cpu_list book c)) (sym one.2) (subst (λ es. P (Some one.0) es) (sym listed) lane))
      ]

  step_is : (step : Step) → IsMet (met_at kept step) (effect_of book step)
  step_is (Look found) = refl
  step_is (Marked mark) = at mark.lane
    where
      at : (lane : LaneId) → IsMet (mark_met kept lane mark.place) (effect_at book lane mark.place)
      at PoolLane = pool_is mark.place
      at BaseLane = base_is mark.place
      at (CpuLane c) = cpu_is c mark.place

  pub steps_are : (steps : List Step) → AreMet (met_in kept steps) (effects_of book steps)
  steps_are [] = tt
  steps_are (step ∷ steps) = (step_is step, steps_are steps)
