-- From the data kept about a line's steps, the code makes the answer and data that the definitions derive from the
-- effects of these steps.
use Rattle.std.proofs.Common.{◌≡◌, ℕ, suc, ◌-◌, ◌<◌, Bool, true, false, List, [], ◌∷◌, length, refl, sym, subst, ap, ◌∙◌, arith, Some, None}
use Rattle.std.specs.Prelude.{◌==◌, ◌^◌, ⊤, Option, slice_get, unwrap_or, if◌then◌else◌}
use Rattle.std.specs.List.{AllByRecursion}
use Rattle.std.proofs.lemmas.Bool.Decides.{nat_tests}
use Rattle.key_names.specs.declared.entries.BaseEntry.{BaseEntry}
use Rattle.key_names.specs.declared.entries.BaseEntry.TheVariants.{Resume}
use Rattle.key_names.specs.declared.events.Event.{Event}
use Rattle.key_names.specs.declared.events.Event.TheVariants.{Bits, Read, Kread, Dread, Uread, Int8, Int16, Int32, Int64}
use Rattle.key_names.specs.declared.events.Event.TheVariants.{Reseed, Tick}
use Rattle.key_names.specs.declared.names.LaneId.{LaneId}
use Rattle.key_names.specs.declared.names.LaneId.TheVariants.{Pool as PoolLane, Base as BaseLane, Cpu as CpuLane}
use Rattle.key_names.specs.declared.names.Step.{Step}
use Rattle.key_names.specs.declared.names.Step.TheVariants.{Look, Visit as Marked}
use Rattle.key_names.specs.Callers.Answers as answers
use Rattle.key_names.specs.Callers.Effects.{Effect, looked, at_pool, at_base, at_cpu, nothing_there, PoolVisit, BaseVisit, CpuVisit}
use Rattle.key_names.specs.Callers.Effects.{base_serves}
use Rattle.key_names.specs.Keys.KeyInUse.{zero_key}
use Rattle.key_names.specs.Transcripts.SeenLine.{count, bytes_or_none}
use Rattle.key_names.specs.Texts.TranscriptGrammar.{StepFits}
use Rattle.input_pool.specs.PoolConforms.{crossing_of}
use Rattle.judge_lines.specs.Kinds.{base_kind, is_resume, kinds_of}
use Rattle.judge_lines.specs.LaneFacts as facts
use Rattle.std.proofs.lemmas.Simd.{map-map}
use Rattle.judge_log.specs.declared.kept.KeptPool.{KeptPool}
use Rattle.judge_log.specs.declared.kept.KeptBase.{KeptBase}
use Rattle.judge_log.specs.declared.kept.KeptCpu.{KeptCpu}
use Rattle.judge_log.specs.declared.kept.Lists.{Lists as KeptLists}
use Rattle.judge_log.specs.Kept.{KeepsPool}
use Rattle.judge_vread.specs.declared.seen.SeenStep.TheVariants.{Unready, Ready}
use Rattle.judge_vread.specs.Recipe.{bytes_made}
use Rattle.judge_vread.specs.Seen.{seen_kind, IsSeen, AllSeen, LookFits}
use Rattle.judge_vread.proofs.SeenShapes.{kinds_seen}
use Rattle.judge_log.specs.declared.met.KeptStep.{KeptStep}
use Rattle.judge_log.specs.declared.met.KeptStep.TheVariants.{Looked, InPool, InBase, InCpu, Nothing}
use Rattle.judge_log.specs.Met.{pool_met, base_met, cpu_met, lane_met, mark_met, met_at, met_in, base_seen}
use Rattle.judge_log.specs.Met.{cpu_seen, seen_of, seen_in, kinds_met}
use Rattle.judge_log.specs.EventSays.{first_crossing, recipe_met, recipe_or_none, last_recipe, found_unready}
use Rattle.judge_log.specs.EventSays.{was_interrupted, system_says, reseed_says, tick_says, event_says, bits_shown}
use Rattle.judge_log.specs.EventSays.{event_shows}
use Rattle.judge_log.specs.Said.{shown_by}
use Rattle.judge_log.proofs.AnswersMade.MetEffects.{MetBase, MetCpu, IsMet, AreMet}

-- ---- a visit about which the data `k` are kept

pub record OfPool (k : KeptPool) : Type 0 where
  pub v : PoolVisit
  pub keeps : KeepsPool k v

pub record OfBase (k : KeptBase) : Type 0 where
  pub v : BaseVisit
  pub met : MetBase k v

pub record OfCpu (on : ℕ) (k : KeptCpu) : Type 0 where
  pub v : CpuVisit
  pub same : on ≡ v.cpu
  pub met : MetCpu k v

abbrev pub One : KeptStep → Type 0
One (Looked g) = ⊤
One (InPool k) = OfPool k
One (InBase k) = OfBase k
One (InCpu on k) = OfCpu on k
One Nothing = ⊤

abbrev pub effect : (m : KeptStep) → One m → Effect
effect (Looked g) p = looked g
effect (InPool k) p = at_pool p.v
effect (InBase k) p = at_base p.v
effect (InCpu on k) p = at_cpu p.v
effect Nothing p = nothing_there

abbrev pub Shape : List KeptStep → Type 0
Shape [] = ⊤
Shape (m ∷ met) = One m × Shape met

abbrev pub effects_in : (met : List KeptStep) → Shape met → List Effect
effects_in [] s = []
effects_in (m ∷ met) s = effect m s.0 ∷ effects_in met s.1

one : (m : KeptStep) (d : Effect) → IsMet m d → (p : One m) × (d ≡ effect m p)
one (Looked g) (looked found) h = (tt, ap looked (sym h))
one (InPool k) (at_pool v) h = (record { v = v; keeps = h }, refl)
one (InBase k) (at_base v) h = (record { v = v; met = h }, refl)
one (InCpu on k) (at_cpu v) h = (record { v = v; same = h.0; met = h.1 }, refl)
one Nothing nothing_there h = (tt, refl)
one _ _ h = absurd h

both : (x y : Effect) (xs ys : List Effect) → x ≡ y → xs ≡ ys → x ∷ xs ≡ y ∷ ys
both x y xs ys p q = cc

pub shaped : (met : List KeptStep) (ds : List Effect) → AreMet met ds → (s : Shape met) × (ds ≡ effects_in met s)
shaped [] [] h = (tt, refl)
shaped [] (d ∷ ds) h = absurd h
shaped (m ∷ met) [] h = absurd h
shaped (m ∷ met) (d ∷ ds) h =
    let p = one m d h.0 in
    let r = shaped met ds h.1 in ((p.0, r.0), both d (effect m p.0) ds (effects_in met r.0) p.1 r.1)

-- ---- the seen steps of a line (kinds, found generations and keys)

module _ (cpu : ℕ) where
  look_is : (g : ℕ) (b : Bool) → (g == 0) ≡ b → IsSeen cpu (if b then Unready else Ready g) (looked g)
  look_is g true h = grind (arith, nat_tests)
  look_is g false h = (refl, (let is : (g == 0) ≡ false = h in grind (arith, nat_tests)))

  base_is : (e : BaseEntry) (key : List ℕ) (v : BaseVisit) → v.entry ≡ e → v.serves ≡ base_serves key v.entry →
      IsSeen cpu (base_seen (is_resume e) key) (at_base v)
  base_is Resume key v is h = (is, h ∙ ap (base_serves key) is)
  base_is _ key v is h = (ap base_kind is, h)

  cpu_is : (on : ℕ) (k : KeptCpu) (p : OfCpu on k) (b : Bool) → (on == cpu) ≡ b →
      IsSeen cpu (cpu_seen b (unwrap_or k.source.key zero_key)) (at_cpu p.v)
  cpu_is on k p true h = (let e : on ≡ cpu = grind (arith, nat_tests) in sym p.same ∙ e, p.met.serves)
  cpu_is on k p false h = ap (λ c. c == cpu) (sym p.same) ∙ h

  one_seen : (m : KeptStep) (p : One m) → IsSeen cpu (seen_of cpu m) (effect m p)
  one_seen (Looked g) p = look_is g (g == 0) refl
  one_seen (InPool k) p = tt
  one_seen (InBase k) p =
      base_is k.entry (unwrap_or k.key zero_key) p.v (sym p.met.entry) p.met.serves
  one_seen (InCpu on k) p = cpu_is on k p (on == cpu) refl
  one_seen Nothing p = tt

  shape_seen : (met : List KeptStep) (s : Shape met) → AllSeen cpu (seen_in cpu met) (effects_in met s)
  shape_seen [] s = tt
  shape_seen (m ∷ met) s = (one_seen m s.0, shape_seen met s.1)

  pub all_seen : (met : List KeptStep) (ds : List Effect) → AreMet met ds → AllSeen cpu (seen_in cpu met) ds
  all_seen met ds h =
      let s = shaped met ds h in
      let P : List Effect → Type 0 = λ xs. AllSeen cpu (seen_in cpu met) xs in subst P (sym s.1) (shape_seen met s.0)

  pub kinds_are : (met : List KeptStep) (ds : List Effect) → AreMet met ds → kinds_met cpu met ≡ kinds_of cpu ds
  kinds_are met ds h = sym (map-map seen_kind (seen_of cpu) met) ∙ sym (kinds_seen cpu (seen_in cpu met) ds (all_seen met ds h))

  -- ---- the generations in the seen steps

  look_fits : (g : ℕ) (b : Bool) → g < 2 ^ 63 → LookFits (if b then Unready else Ready g)
  look_fits g true low = tt
  look_fits g false low = low

  base_fits : (b : Bool) (key : List ℕ) → LookFits (base_seen b key)
  base_fits true key = tt
  base_fits false key = tt

  cpu_fits : (b : Bool) (key : List ℕ) → LookFits (cpu_seen b key)
  cpu_fits true key = tt
  cpu_fits false key = tt

  module _ (kept : KeptLists) where
    lane_fits : (lane : LaneId) (place : ℕ) → LookFits (seen_of cpu (mark_met kept lane place))
    lane_fits PoolLane place = go (slice_get kept.pool.items place)
      where
        go : (o : Option KeptPool) → LookFits (seen_of cpu (pool_met o))
        go None = tt
        go (Some k) = tt
    lane_fits BaseLane place = go (slice_get kept.base.items place)
      where
        go : (o : Option KeptBase) → LookFits (seen_of cpu (base_met o))
        go None = tt
        go (Some k) = base_fits (is_resume k.entry) (unwrap_or k.key zero_key)
    lane_fits (CpuLane c) place = elim (slice_get kept.cpus.items c) as (λ o. LookFits (seen_of cpu (lane_met c place o))) [
      | None ↦ tt
      | Some lane ↦ elim (slice_get lane.items place) as (λ o. LookFits (seen_of cpu (cpu_met c o))) [
        | None ↦ tt
        | Some k ↦ cpu_fits (c == cpu) (unwrap_or k.source.key zero_key)
      ]
    ]

    step_fits : (step : Step) → StepFits step → LookFits (seen_of cpu (met_at kept step))
    step_fits (Look g) fits = look_fits g (g == 0) fits
    step_fits (Marked mark) fits = lane_fits mark.lane mark.place

    pub looks_fit : (steps : List Step) → AllByRecursion StepFits steps →
        AllByRecursion LookFits (seen_in cpu (met_in kept steps))
    looks_fit [] fits = tt
    looks_fit (step ∷ steps) fits = (step_fits step fits.0, looks_fit steps fits.1)

-- ---- the answer and data of a line

crossing_in : (met : List KeptStep) (s : Shape met) → crossing_of (first_crossing met) ≡ facts.first_crossing (effects_in met s)
crossing_in [] s = refl
crossing_in (InPool k ∷ met) s = s.0.keeps.crosses
crossing_in (Looked g ∷ met) s = crossing_in met s.1
crossing_in (InBase k ∷ met) s = crossing_in met s.1
crossing_in (InCpu on k ∷ met) s = crossing_in met s.1
crossing_in (Nothing ∷ met) s = crossing_in met s.1

pub crossing_is : (met : List KeptStep) (ds : List Effect) → AreMet met ds →
    crossing_of (first_crossing met) ≡ facts.first_crossing ds
crossing_is met ds h = let s = shaped met ds h in crossing_in met s.0 ∙ ap facts.first_crossing (sym s.1)

pub crossings_known : (c : facts.LaneFacts) (ds : List Effect) → facts.AllFit c ds → facts.CrossingsKnown c ds
crossings_known c [] fit = tt
crossings_known c (looked g ∷ ds) fit = (tt, crossings_known c ds fit.1)
crossings_known c (at_pool v ∷ ds) fit = (fit.0, crossings_known c ds fit.1)
crossings_known c (at_base v ∷ ds) fit = (tt, crossings_known c ds fit.1)
crossings_known c (at_cpu v ∷ ds) fit = (tt, crossings_known c ds fit.1)
crossings_known c (nothing_there ∷ ds) fit = (tt, crossings_known c ds fit.1)

unready_in : (met : List KeptStep) (s : Shape met) → found_unready met ≡ answers.found_unready (effects_in met s)
unready_in [] s = refl
unready_in (Looked g ∷ met) s = refl
unready_in _ s = refl

interrupted_in : (met : List KeptStep) (s : Shape met) → was_interrupted met ≡ answers.was_interrupted (effects_in met s)
interrupted_in (Looked g ∷ InBase k ∷ InBase l ∷ []) s = ap answers.is_interrupt s.1.1.0.met.entry
interrupted_in _ s = refl

tick_in : (met : List KeptStep) (s : Shape met) → tick_says met ≡ answers.tick_answer (effects_in met s)
tick_in [] s = refl
tick_in (InBase k ∷ []) s = refl
tick_in _ s = refl

bits_in : (met : List KeptStep) (s : Shape met) → shown_by (bits_shown met) ≡ answers.bits_read (effects_in met s)
bits_in (InPool k ∷ []) s = ap count s.0.keeps.before
bits_in _ s = refl

visit_bytes : (m : KeptStep) (p : One m) → bytes_made (recipe_met m) ≡ answers.effect_bytes (effect m p)
visit_bytes (Looked g) p = refl
visit_bytes (InPool k) p = refl
visit_bytes (InBase k) p = p.met.bytes
visit_bytes (InCpu on k) p = p.met.bytes
visit_bytes Nothing p = refl

last_later : (m n : KeptStep) (met : List KeptStep) → last_recipe (m ∷ n ∷ met) ≡ last_recipe (n ∷ met)
last_later m n met =
    let a : length (m ∷ n ∷ met) - 1 ≡ suc (length met) = omega arith in
    let b : length (n ∷ met) - 1 ≡ length met = omega arith in
    ap (λ i. recipe_or_none (slice_get (m ∷ n ∷ met) i)) a ∙ sym (ap (λ i. recipe_or_none (slice_get (n ∷ met) i)) b)

bytes_in : (met : List KeptStep) (s : Shape met) → bytes_made (last_recipe met) ≡ answers.served_bytes (effects_in met s)
bytes_in [] s = refl
bytes_in (m ∷ []) s = visit_bytes m s.0
bytes_in (m ∷ n ∷ met) s = ap bytes_made (last_later m n met) ∙ bytes_in (n ∷ met) s.1

module _ (met : List KeptStep) (s : Shape met) where
  abbrev ds : List Effect
  ds = effects_in met s

  system_in : (flags : ℕ) → system_says flags met ≡ answers.system_answer flags ds
  system_in flags = rw (unready_in met s, interrupted_in met s) refl

  reseed_in : reseed_says met ≡ answers.answer_of Reseed ds
  reseed_in = rw (unready_in met s) refl

  abbrev Says : Event → Type 0
  Says event = (answers.answer_of event ds ≡ event_says event met)
      × (answers.shown_of event ds ≡ shown_by (event_shows event met))

  served_in : bytes_or_none (answers.served_bytes ds) ≡ bytes_or_none (bytes_made (last_recipe met))
  served_in = ap bytes_or_none (sym (bytes_in met s))

  event_in : (event : Event) → Says event
  event_in (Read len flags) = (sym (system_in flags), served_in)
  event_in (Dread len flag) = (sym (system_in flag), served_in)
  event_in (Kread len) = (refl, served_in)
  event_in (Uread len) = (refl, served_in)
  event_in Int8 = (refl, served_in)
  event_in Int16 = (refl, served_in)
  event_in Int32 = (refl, served_in)
  event_in Int64 = (refl, served_in)
  event_in Bits = (refl, sym (bits_in met s))
  event_in Reseed = (sym reseed_in, refl)
  event_in Tick = (sym (tick_in met s), refl)
  event_in _ = (refl, refl)

module _ (met : List KeptStep) (ds : List Effect) (h : AreMet met ds) where
  shape : (s : Shape met) × (ds ≡ effects_in met s)
  shape = shaped met ds h

  -- for a single event, the kept data `met` give the same answer and the same shown bytes as the effects `ds`
  pub event_said : (event : Event) → (answers.answer_of event ds ≡ event_says event met)
      × (answers.shown_of event ds ≡ shown_by (event_shows event met))
  event_said event =
      let P : List Effect → Type 0 = λ xs. (answers.answer_of event xs ≡ event_says event met)
      × (answers.shown_of event xs ≡ shown_by (event_shows event met)) in
      subst P (sym shape.1) (event_in met shape.0 event)

  -- for a system call, the kept data give the same answer and data as the effects
  pub system_said : (flags : ℕ) → (answers.system_answer flags ds ≡ system_says flags met)
      × (bytes_or_none (answers.served_bytes ds) ≡ bytes_or_none (bytes_made (last_recipe met)))
  system_said flags =
      let P : List Effect → Type 0 = λ xs. (answers.system_answer flags xs ≡ system_says flags met)
      × (bytes_or_none (answers.served_bytes xs) ≡ bytes_or_none (bytes_made (last_recipe met))) in
      subst P (sym shape.1) (sym (system_in met shape.0 flags), served_in met shape.0)
