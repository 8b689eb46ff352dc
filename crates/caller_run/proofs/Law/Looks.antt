-- Each look of a caller conforms: it finds at least the generation seen before it, and at most the number of reseeds.
use Rattle.std.proofs.Common.{◌≡◌, ℕ, suc, ◌+◌, ◌<◌, ◌≤◌, max, List, [], ◌∷◌, length, map, take, ◌++◌, refl, sym, subst, ap, arith, Some, None, Option}
use Rattle.std.specs.Prelude.{slice_get}
use Rattle.std.proofs.lemmas.List.Sums.{fold-append}
use Rattle.key_names.specs.declared.names.LaneId.{LaneId}
use Rattle.key_names.specs.declared.names.LaneId.TheVariants.{Pool as PoolLane, Base as BaseLane, Cpu as CpuLane}
use Rattle.key_names.specs.declared.entries.PoolEntry.{PoolEntry}
use Rattle.key_names.specs.declared.entries.BaseEntry.{BaseEntry}
use Rattle.key_names.specs.declared.entries.CpuEntry.{CpuEntry}
use Rattle.key_names.specs.declared.names.Step.TheVariants.{Visit as Marked}
use Rattle.key_names.specs.Lanes.BaseList.{BaseState, base_after, base_step, base_start}
use Rattle.key_names.specs.Lanes.CpuList.{CpuState, cpu_after, cpu_step, cpu_start}
use Rattle.key_names.specs.Lanes.Book.{Lists, cpu_list}
use Rattle.key_names.specs.Callers.Effects.{Effect, looked as see, at_pool, at_base, at_cpu, effect_or, effect_at, effect_of, effects_of, pool_visit, base_visit, cpu_visit}
use Rattle.key_names.specs.Callers.History.{seen, seen_after, LookConforms, LooksConform}
use Rattle.base_gen.specs.BaseValue.{BaseValue}
use Rattle.cpu_gen.specs.CpuValue.{CpuValue}
use Rattle.lane_table.specs.declared.view.Visit.{Visit}
use Rattle.lane_table.specs.declared.view.View.{View}
use Rattle.lane_table.specs.LaneNumbers.{index_of}
use Rattle.lane_table.specs.Meaning.{replay}
use Rattle.lane_table.specs.WorldRule.{known_of}
use Rattle.lane_table.specs.BookLists.{StateLists, book_lists}
use Rattle.lane_table.specs.BookLaws.{ClosedLanes}
use Rattle.lane_table.specs.Advances.{MadeStep, looked, visited, step_of, Sees, generation_of}
use Rattle.lane_table.proofs.Rule.Sights.{AllKnown, sees_up}
use Rattle.lane_table.proofs.Lists.Places.{fold_next}
use Rattle.lane_table.proofs.Book.BookValues.{base_before}
use Rattle.lane_table.proofs.Book.BookWhole.{beside}
use Rattle.lane_table.proofs.Book.BookMeans.{cpu_met_before}

module _ (lanes : ℕ) (visits : ℕ → List Visit) (callers : StateLists) (ok : ClosedLanes lanes visits) where
  abbrev lists : Lists
  lists = book_lists lanes visits callers

  -- the generation of a lane after the visit at a place
  abbrev generation_at : LaneId → ℕ → ℕ
  generation_at lane place = generation_of (replay (take (suc place) (visits (index_of lane))))

  base_reached : (place : ℕ) (e : BaseEntry) → place < length (visits 1) → slice_get lists.base place ≡ Some e →
      (base_visit lists place e).after.generation ≤ generation_at BaseLane place
  base_reached place e within is =
      let a : (replay (take (suc place) (visits 1))).base.generation
      ≡ (base_after (take (suc place) lists.base)).generation =
      ap (λ (b : BaseValue). b.generation)
      (base_before lanes (visits 0) (visits 1) (beside lanes visits callers ok) (suc place) (omega arith)) in
      let b : (base_after (take (suc place) lists.base)).generation ≡ (base_visit lists place e).after.generation =
      ap (λ (s : BaseState). s.generation) (fold_next base_step base_start lists.base place e is) in omega arith

  cpu_reached : (c place : ℕ) (e : CpuEntry) → c + 2 < lanes → place < length (visits (c + 2)) →
      slice_get (cpu_list lists c) place ≡ Some e →
      (cpu_visit lists c place e).after.generation ≤ generation_at (CpuLane c) place
  cpu_reached c place e below within is =
      let a : (replay (take (suc place) (visits (c + 2)))).cpu.cpu.generation
      ≡ (cpu_after lists.base c (take (suc place) (cpu_list lists c))).generation =
      ap (λ (v : CpuValue). v.generation)
      (cpu_met_before lanes visits callers ok c below (suc place) (omega arith)).cpu in
      let b : (cpu_after lists.base c (take (suc place) (cpu_list lists c))).generation
      ≡ (cpu_visit lists c place e).after.generation =
      ap (λ (s : CpuState). s.generation)
      (fold_next (cpu_step lists.base c) cpu_start (cpu_list lists c) place e is) in omega arith

  -- the effect fulfils `LookConforms`, and the generation seen after the effect is at most `mid`
  abbrev Passes : ℕ → ℕ → ℕ → Effect → Type 0
  Passes reseeds seen mid effect = LookConforms reseeds seen effect × (seen_after seen effect ≤ mid)

  passes : (lane : LaneId) (place reseeds seen mid : ℕ) → index_of lane < lanes →
      place < length (visits (index_of lane)) → seen ≤ mid → generation_at lane place ≤ mid →
      Passes reseeds seen mid (effect_at lists lane place)
  passes PoolLane place reseeds seen mid below within low reached = go (slice_get lists.pool place)
    where
      go : (o : Option PoolEntry) → Passes reseeds seen mid (effect_or (λ e. at_pool (pool_visit lists place e)) o)
      go None = (tt, low)
      go (Some e) = (tt, low)
  passes BaseLane place reseeds seen mid below within low reached = go (slice_get lists.base place) refl
    where
      go : (o : Option BaseEntry) → slice_get lists.base place ≡ o →
          Passes reseeds seen mid (effect_or (λ e. at_base (base_visit lists place e)) o)
      go None is = (tt, low)
      go (Some e) is = (tt, (let r = base_reached place e within is in omega arith))
  passes (CpuLane c) place reseeds seen mid below within low reached = go (slice_get (cpu_list lists c) place) refl
    where
      go : (o : Option CpuEntry) → slice_get (cpu_list lists c) place ≡ o →
          Passes reseeds seen mid (effect_or (λ e. at_cpu (cpu_visit lists c place e)) o)
      go None is = (tt, low)
      go (Some e) is = (tt, (let r = cpu_reached c place e below within is in omega arith))

-- the generation seen after one more effect follows from the effect and the generation seen before
seen_more : (before : List Effect) (effect : Effect) → seen (before ++ effect ∷ []) ≡ seen_after (seen before) effect
seen_more before effect = fold-append seen_after 0 before (effect ∷ [])

-- if each visit among some steps is in the final lists, the looks among the steps conform
pub looks_conform : (w : View) (callers : StateLists) → ClosedLanes (length w.lanes) (known_of w) →
    (made_steps : List MadeStep) (low high reseeds : ℕ) (before : List Effect) → AllKnown w made_steps →
    Sees w low made_steps high → seen before ≤ low → high ≤ reseeds →
    LooksConform reseeds before (effects_of (book_lists (length w.lanes) (known_of w) callers) (map step_of made_steps))
looks_conform w callers ok [] low high reseeds before known s from to = tt
looks_conform w callers ok (looked g ∷ made_steps) low high reseeds before known s from to = (
  (let a = s.0 in omega arith, (let b = sees_up w g high made_steps s.1 in omega arith)),
  looks_conform w callers ok made_steps g high reseeds (before ++ see g ∷ []) known s.1
      (let a = s.0 in let e : seen (before ++ see g ∷ []) ≡ max (seen before) g = seen_more before (see g) in
      omega arith) to,
)
looks_conform w callers ok (visited mark e ∷ made_steps) low high reseeds before known s from to =
    let effect : Effect = effect_of (book_lists (length w.lanes) (known_of w) callers) (Marked mark) in
    let p = passes (length w.lanes) (known_of w) callers ok mark.lane mark.place reseeds (seen before) s.0 known.0
    known.1 (let a = s.1 in omega arith) s.2 in (
      p.0,
      looks_conform w callers ok made_steps s.0 high reseeds (before ++ effect ∷ []) known.2 s.3
          (subst (λ (n : ℕ). n ≤ s.0) (sym (seen_more before effect)) p.1) to,
    )
