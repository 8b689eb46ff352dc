-- Looks are lawful by the data kept about the lanes exactly if they are lawful in the lists of the lanes.
use Rattle.std.proofs.Common.{◌≡◌, ℕ, zero, suc, ◌<◌, ◌-◌, Option, Some, None, List, [], ◌∷◌, length, map, max, take, refl, sym, subst, ap, ◌∙◌, arith}
use Rattle.std.specs.Prelude.{◌↔◌, slice_get, unwrap_or, option_map}
use Rattle.std.specs.List.{fold, AllByRecursion}
use Rattle.std.specs.Global.{Vec}
use Rattle.key_names.specs.declared.names.LaneId.{LaneId}
use Rattle.key_names.specs.declared.names.LaneId.TheVariants.{Pool as PoolLane, Base as BaseLane, Cpu as CpuLane}
use Rattle.key_names.specs.declared.names.Step.{Step}
use Rattle.key_names.specs.declared.names.Step.TheVariants.{Look, Visit as Marked}
use Rattle.key_names.specs.declared.entries.PoolEntry.{PoolEntry}
use Rattle.key_names.specs.declared.entries.BaseEntry.{BaseEntry}
use Rattle.key_names.specs.declared.entries.CpuEntry.{CpuEntry}
use Rattle.key_names.specs.Lanes.BaseList.{BaseState, base_after, base_step, base_start}
use Rattle.key_names.specs.Lanes.Book.{Lists, list_at, cpu_list}
use Rattle.key_names.specs.Keys.KeyInUse.{base_used_at, cpu_used_at}
use Rattle.key_names.specs.Callers.Effects.{Effect, at_pool, at_base, at_cpu, effect_or, effect_at, effect_of, effects_of}
use Rattle.key_names.specs.Callers.Effects.{pool_visit, base_visit, cpu_visit}
use Rattle.key_names.specs.Callers.History.{seen_after, LookConforms, LooksConform}
use Rattle.key_names.specs.Callers.CallerOrders.{LooksFrom}
use Rattle.key_names.proofs.History.CallerOrders.{looks_are_counted}
use Rattle.key_names.proofs.Lists.Each.{each_weaker}
use Rattle.judge_lines.specs.Along.{Along}
use Rattle.judge_log.specs.declared.kept.KeptBase.{KeptBase}
use Rattle.judge_log.specs.declared.kept.KeptCpu.{KeptCpu}
use Rattle.judge_log.specs.declared.kept.Lists.{Lists as KeptLists}
use Rattle.judge_log.specs.Places.{AllKept}
use Rattle.judge_log.specs.Kept.{Keeps, KeepsBase, KeepsCpu, KeepsCpuLane}
use Rattle.serial_replay.specs.Seen.{lane_of, left_at, seen_more, seen_past, MayLook, reseeds_in}

-- `kept` has an item `k` at place `i`, and `S` holds of `k` and the entry `e`
pub record KeptAt {K E : Type 0} (S : ℕ → K → E → Type 0) (kept : List K) (i : ℕ) (e : E) : Type 0 where
  pub k : K
  pub here : slice_get kept i ≡ Some k
  pub holds : S i k e

abbrev AtPlace : {K E : Type 0} → (ℕ → K → E → Type 0) → List K → ℕ → Option E → Type 0
AtPlace S kept i None = slice_get kept i ≡ None
AtPlace S kept i (Some e) = KeptAt S kept i e

kept_there : {K E : Type 0} (S : ℕ → K → E → Type 0) (kept : List K) (list : List E) (i : ℕ) →
    length kept ≡ length list →
    ((k : K) (e : E) → slice_get kept i ≡ Some k → slice_get list i ≡ Some e → S i k e) →
    AtPlace S kept i (slice_get list i)
kept_there S [] [] i long each = refl
kept_there S [] (e ∷ list) i long each = absurd (omega arith)
kept_there S (k ∷ kept) [] i long each = absurd (omega arith)
kept_there S (k ∷ kept) (e ∷ list) zero long each = record { k = k; here = refl; holds = each k e refl refl }
kept_there S (k ∷ kept) (e ∷ list) (suc i) long each =
    shifted (slice_get list i) (kept_there (λ j. S (suc j)) kept list i (omega arith) each)
  where
    shifted : (o : Option _) → AtPlace (λ j. S (suc j)) kept i o → AtPlace S (k ∷ kept) (suc i) o
    shifted None at = at
    shifted (Some e) at = record { k = at.k; here = at.here; holds = at.holds }

at_place : {K E : Type 0} (S : ℕ → K → E → Type 0) (kept : List K) (list : List E) (i : ℕ) → AllKept S kept list →
    AtPlace S kept i (slice_get list i)
at_place S kept list i all = kept_there S kept list i all.count (all.each i)

-- let `S` hold of two empty lists, and of each lane's kept data with the lane's entries. Then `S` holds of the kept
-- data and the entries at any lane number `c`
lane_there : {K E : Type 0} (kept : List (List K)) (lists : List (List E)) (c : ℕ) (o : Option (List E)) →
    slice_get lists c ≡ o → length kept ≡ length lists → (S : ℕ → List K → List E → Type 0) →
    AtPlace S kept c o → S c [] [] → S c (list_at kept c) (list_at lists c)
lane_there [] [] c o is long S at none = none
lane_there [] (es ∷ lists) c o is long S at none = absurd (omega arith)
lane_there (ks ∷ kept) [] c o is long S at none = absurd (omega arith)
lane_there (ks ∷ kept) (es ∷ lists) zero None is long S at none = cc
lane_there (ks ∷ kept) (es ∷ lists) zero (Some es') is long S at none =
    let a : ks ≡ at.k = (let e = at.here in cc) in let b : es' ≡ es = cc in
    subst (λ xs. S 0 ks xs) b (subst (λ (xs : List _). S 0 xs es') (sym a) at.holds)
lane_there (ks ∷ kept) (es ∷ lists) (suc c) o is long S at none =
    lane_there kept lists c o is (omega arith) (λ d. S (suc d)) (down o at) none
  where
    down : (o : Option _) → AtPlace S (ks ∷ kept) (suc c) o → AtPlace (λ d. S (suc d)) kept c o
    down None at = at
    down (Some es) at = record { k = at.k; here = at.here; holds = at.holds }

abbrev cpu_lanes : KeptLists → List (List KeptCpu)
cpu_lanes kept = map (λ lane. lane.items) kept.cpus.items

lane_is : (cpus : List (Vec KeptCpu)) (c : ℕ) → lane_of (slice_get cpus c) ≡ list_at (map (λ lane. lane.items) cpus) c
lane_is [] c = refl
lane_is (lane ∷ cpus) zero = refl
lane_is (lane ∷ cpus) (suc c) = lane_is cpus c

module _ (kept : KeptLists) (lists : Lists) (keeps : Keeps kept lists) where
  cpu_kept : (c : ℕ) → KeepsCpuLane lists c (list_at (cpu_lanes kept) c) (cpu_list lists c)
  cpu_kept c = lane_there (cpu_lanes kept) lists.cpus c (slice_get lists.cpus c) refl keeps.cpus.count
      (KeepsCpuLane lists) (at_place (KeepsCpuLane lists) (cpu_lanes kept) lists.cpus c keeps.cpus)
      (record { count = refl; each = λ i k e is. cc })

  -- after a visit of the base, the generation that the caller has seen is the same by the kept data as by the
  -- definitions
  base_left : (seen : Option ℕ) (place : ℕ) (o : Option BaseEntry) →
      AtPlace (λ i k e. KeepsBase (base_used_at lists.pool lists.base i) k (base_visit lists i e)) kept.base.items place o →
      unwrap_or (seen_more seen (left_at kept BaseLane place)) 0
      ≡ seen_after (unwrap_or seen 0) (effect_or (λ e. at_base (base_visit lists place e)) o)
  base_left seen place None at = ap (λ o. unwrap_or (seen_more seen (option_map (λ (k : KeptBase). k.generation) o)) 0) at
  base_left seen place (Some e) at =
      ap (λ o. unwrap_or (seen_more seen (option_map (λ (k : KeptBase). k.generation) o)) 0) at.here
      ∙ ap (max (unwrap_or seen 0)) at.holds.generation

  cpu_left : (seen : Option ℕ) (c place : ℕ) (o : Option CpuEntry) →
      AtPlace (λ place k e. KeepsCpu (cpu_used_at lists c) k (cpu_visit lists c place e)) (lane_of (slice_get kept.cpus.items c))
      place o →
      unwrap_or (seen_more seen (left_at kept (CpuLane c) place)) 0
      ≡ seen_after (unwrap_or seen 0) (effect_or (λ e. at_cpu (cpu_visit lists c place e)) o)
  cpu_left seen c place None at =
      ap (λ o. unwrap_or (seen_more seen (option_map (λ (k : KeptCpu). k.generation) o)) 0) at
  cpu_left seen c place (Some e) at =
      ap (λ o. unwrap_or (seen_more seen (option_map (λ (k : KeptCpu). k.generation) o)) 0) at.here
      ∙ ap (max (unwrap_or seen 0)) at.holds.generation

  pool_left : (seen : Option ℕ) (place : ℕ) (o : Option PoolEntry) →
      unwrap_or seen 0 ≡ seen_after (unwrap_or seen 0) (effect_or (λ e. at_pool (pool_visit lists place e)) o)
  pool_left seen place None = refl
  pool_left seen place (Some e) = refl

  lane_left : (seen : Option ℕ) (lane : LaneId) (place : ℕ) →
      unwrap_or (seen_more seen (left_at kept lane place)) 0 ≡ seen_after (unwrap_or seen 0) (effect_at lists lane place)
  lane_left seen PoolLane place = pool_left seen place (slice_get lists.pool place)
  lane_left seen BaseLane place = base_left seen place (slice_get lists.base place)
      (at_place (λ i k e. KeepsBase (base_used_at lists.pool lists.base i) k (base_visit lists i e)) kept.base.items
      lists.base place keeps.base)
  lane_left seen (CpuLane c) place = cpu_left seen c place (slice_get (cpu_list lists c) place)
      (at_place (λ place k e. KeepsCpu (cpu_used_at lists c) k (cpu_visit lists c place e)) (lane_of (slice_get kept.cpus.items c))
      (cpu_list lists c) place
      (subst (λ lane. KeepsCpuLane lists c lane (cpu_list lists c)) (sym (lane_is kept.cpus.items c)) (cpu_kept c)))

  step_left : (seen : Option ℕ) (step : Step) →
      unwrap_or (seen_past kept seen step) 0 ≡ seen_after (unwrap_or seen 0) (effect_of lists step)
  step_left seen (Look g) = refl
  step_left seen (Marked mark) = lane_left seen mark.lane mark.place

  -- the condition on looks holds of the effect of a visit, since only a look can be unlawful
  visit_conforms : {E : Type 0} (reseeds seen : ℕ) (effect : E → Effect) → ((e : E) → LookConforms reseeds seen (effect e)) →
      (o : Option E) → LookConforms reseeds seen (effect_or effect o)
  visit_conforms reseeds seen effect each None = tt
  visit_conforms reseeds seen effect each (Some e) = each e

  lane_conforms : (reseeds seen : ℕ) (lane : LaneId) (place : ℕ) → LookConforms reseeds seen (effect_at lists lane place)
  lane_conforms reseeds seen PoolLane place =
      visit_conforms reseeds seen (λ (e : PoolEntry). at_pool (pool_visit lists place e)) (λ e. tt) (slice_get lists.pool place)
  lane_conforms reseeds seen BaseLane place =
      visit_conforms reseeds seen (λ (e : BaseEntry). at_base (base_visit lists place e)) (λ e. tt) (slice_get lists.base place)
  lane_conforms reseeds seen (CpuLane c) place =
      visit_conforms reseeds seen (λ (e : CpuEntry). at_cpu (cpu_visit lists c place e)) (λ e. tt)
      (slice_get (cpu_list lists c) place)

  step_conforms : (reseeds : ℕ) (seen : Option ℕ) (step : Step) →
      MayLook reseeds seen step ↔ LookConforms reseeds (unwrap_or seen 0) (effect_of lists step)
  step_conforms reseeds seen (Look g) = ((λ h. h), (λ h. h))
  step_conforms reseeds seen (Marked mark) =
      ((λ h. lane_conforms reseeds (unwrap_or seen 0) mark.lane mark.place), (λ h. tt))

  along_looks : (reseeds : ℕ) (seen : Option ℕ) (order : List Step) →
      Along (seen_past kept) (MayLook reseeds) seen order ↔ LooksFrom reseeds (unwrap_or seen 0) (effects_of lists order)
  along_looks reseeds seen [] = ((λ h. tt), (λ h. tt))
  along_looks reseeds seen (step ∷ order) =
      let here : MayLook reseeds seen step ↔ LookConforms reseeds (unwrap_or seen 0) (effect_of lists step) =
      step_conforms reseeds seen step in
      let rest : Along (seen_past kept) (MayLook reseeds) (seen_past kept seen step) order
      ↔ LooksFrom reseeds (unwrap_or (seen_past kept seen step) 0) (effects_of lists order) =
      along_looks reseeds (seen_past kept seen step) order in
      let left : unwrap_or (seen_past kept seen step) 0 ≡ seen_after (unwrap_or seen 0) (effect_of lists step) =
      step_left seen step in (
        (λ h. (here.0 h.0, subst (λ (n : ℕ). LooksFrom reseeds n (effects_of lists order)) left (rest.0 h.1))),
        (λ h. (here.1 h.0, rest.1 (subst (λ (n : ℕ). LooksFrom reseeds n (effects_of lists order)) (sym left) h.1))),
      )

  -- the generation kept for the base's last visit is the generation after all entries of the base
  reseeds_from : (kept_base : List KeptBase) (es : List BaseEntry) (s : BaseState) (i : ℕ) → length kept_base ≡ length es →
      ((j : ℕ) (k : KeptBase) (e : BaseEntry) → slice_get kept_base j ≡ Some k → slice_get es j ≡ Some e →
      k.generation ≡ (base_step (fold base_step s (take j es)) e).generation) →
      0 < length es → (fold base_step s es).generation ≡ reseeds_in kept_base
  reseeds_from [] es s i long each some = absurd (omega arith)
  reseeds_from (k ∷ []) [] s i long each some = absurd (omega arith)
  reseeds_from (k ∷ []) (e ∷ []) s i long each some = sym (each 0 k e refl refl)
  reseeds_from (k ∷ []) (e ∷ f ∷ es) s i long each some = absurd (omega arith)
  reseeds_from (k ∷ l ∷ ks) [] s i long each some = absurd (omega arith)
  reseeds_from (k ∷ l ∷ ks) (e ∷ []) s i long each some = absurd (omega arith)
  reseeds_from (k ∷ l ∷ ks) (e ∷ f ∷ es) s i long each some =
      let last : suc (suc (length ks)) - 1 ≡ suc (suc (length ks) - 1) = omega arith in
      reseeds_from (l ∷ ks) (f ∷ es) (base_step s e) i (omega arith) (λ j. each (suc j)) (omega arith)
      ∙ sym (ap (λ n. unwrap_or (option_map (λ (x : KeptBase). x.generation) (slice_get (k ∷ l ∷ ks) n)) 0) last)

  pub reseeds_are : (base_after lists.base).generation ≡ reseeds_in kept.base.items
  reseeds_are = by lists.base kept.base.items keeps.base.count
      (λ j k e here there. (keeps.base.each j k e here there).generation)
    where
      by : (es : List BaseEntry) (ks : List KeptBase) → length ks ≡ length es →
          ((j : ℕ) (k : KeptBase) (e : BaseEntry) → slice_get ks j ≡ Some k → slice_get es j ≡ Some e →
          k.generation ≡ (base_step (base_after (take j es)) e).generation) →
          (base_after es).generation ≡ reseeds_in ks
      by [] [] long each = refl
      by [] (k ∷ ks) long each = absurd (omega arith)
      by (e ∷ es) ks long each = reseeds_from ks (e ∷ es) base_start 0 long each (omega arith)

  -- let `orders` have each caller's steps in order. The looks in these steps are lawful by the kept data exactly if the
  -- looks are lawful in the lists
  pub looks_conform : (reseeds : ℕ) → reseeds ≡ reseeds_in kept.base.items → (orders : List (List Step)) →
      AllByRecursion (Along (seen_past kept) (MayLook reseeds) None) orders
      ↔ AllByRecursion (λ order. LooksConform (base_after lists.base).generation [] (effects_of lists order)) orders
  looks_conform reseeds is orders =
      let same : reseeds ≡ (base_after lists.base).generation = is ∙ sym reseeds_are in (
        each_weaker (Along (seen_past kept) (MayLook reseeds) None)
            (λ order. LooksConform (base_after lists.base).generation [] (effects_of lists order)) orders
            (λ order h. subst (λ n. LooksConform n [] (effects_of lists order)) same
            ((looks_are_counted reseeds [] (effects_of lists order)).1 ((along_looks reseeds None order).0 h))),
        each_weaker (λ order. LooksConform (base_after lists.base).generation [] (effects_of lists order))
            (Along (seen_past kept) (MayLook reseeds) None) orders
            (λ order h. (along_looks reseeds None order).1 ((looks_are_counted reseeds [] (effects_of lists order)).0
            (subst (λ n. LooksConform n [] (effects_of lists order)) (sym same) h))),
      )
