-- The book's effect at a visit's place agrees with the lane's model (its value in the proofs) before the visit.
use Rattle.std.proofs.Common.{◌≡◌, ℕ, ◌+◌, ◌≤◌, ◌<◌, true, false, List, length, take, refl, sym, ap, ◌∙◌, subst, arith, Some, None, Option}
use Rattle.std.specs.Prelude.{slice_get}
use Rattle.std.proofs.lemmas.Option.{slice_get_within}
use Rattle.key_names.specs.declared.entries.PoolEntry.{PoolEntry}
use Rattle.key_names.specs.declared.entries.BaseEntry.{BaseEntry}
use Rattle.key_names.specs.declared.entries.CpuEntry.{CpuEntry}
use Rattle.key_names.specs.declared.entries.CpuEntry.TheVariants.{Read, Int, Irq, Dump, Prepare, Online}
use Rattle.key_names.specs.Lanes.PoolList.{pool_after, pool_step}
use Rattle.key_names.specs.Lanes.BaseList.{BaseState, base_after, base_step}
use Rattle.key_names.specs.Kernel.Batches.{Fill, must_fill, batched_int}
use Rattle.key_names.specs.Lanes.CpuList.{CpuState, CpuFits, cpu_after, cpu_step}
use Rattle.key_names.specs.Keys.KeyInUse.{base_value_after, base_value_step, cpu_value_in_use, cpu_value_after, cpu_used_at, taken_bytes}
use Rattle.key_names.specs.Callers.Effects.{at_pool, at_base, at_cpu, effect_or, pool_visit, base_visit, cpu_visit, base_serves, cpu_serves, int_of}
use Rattle.key_names.specs.Lanes.Book.{Lists, cpu_list}
use Rattle.base_gen.specs.BaseValue.{BaseValue, base_at, after_entry}
use Rattle.base_gen.proofs.Rows.{after_entry-base_at}
use Rattle.cpu_gen.specs.CpuValue.{CpuValue}
use Rattle.cpu_gen.specs.CpuValue as cpu
use Rattle.cpu_gen.proofs.Entries.{after_entry-cpu_at}
use Rattle.int_batch.specs.BatchValue.{next_bytes}
use Rattle.int_batch.proofs.Fills.{next_bytes-batched_int}
use Rattle.lane_table.specs.declared.view.LaneEntry.TheVariants.{Pool, Base, Cpu}
use Rattle.lane_table.specs.declared.view.Visit.{Visit}
use Rattle.lane_table.specs.Meaning.{CpuModel, replay, generator_of, batch_at}
use Rattle.lane_table.specs.BookLists.{StateLists, entries, cpu_entry, book_lists}
use Rattle.lane_table.specs.BookLaws.{bare, ClosedLanes, CpuReplays, BatchReplays}
use Rattle.lane_table.specs.VisitsMet.{PoolMet, BaseMet, CpuMet, IsIntOfBatch, FitsBatch, cpu_serving}
use Rattle.lane_table.proofs.Book.BookEntries.{pool_kind, entered_at}
use Rattle.lane_table.proofs.Book.BookValues.{SameHeldLane, pool_before, base_before, base_entered, base_used, root_handed}
use Rattle.lane_table.proofs.Book.BookCpus.{CpuLane, RefillHanded, cpu_entered_at, cpu_used_before, state_before}
use Rattle.lane_table.proofs.Book.BookBatches.{not_used_up}
use Rattle.lane_table.proofs.Book.BookLawful.{fits_before}
use Rattle.lane_table.proofs.Book.BookReplays.{cpu_replays}
use Rattle.lane_table.proofs.Book.BookWhole.{beside, cpu_lane_of}

-- lemmas about a CPU's visits, from the CPU's list alone
module _ (lanes c : ℕ) (lists : Lists) (xs : List Visit) (lane : CpuLane lanes c lists xs) where
  abbrev es : List CpuEntry
  es = entries cpu_entry xs

  abbrev model : ℕ → CpuModel
  model i = (replay (take i xs)).cpu

  abbrev state : ℕ → CpuState
  state i = cpu_after lists.base c (take i es)

  -- an integer that needs no new fill is the next one of its batch, in the book and in the model
  next_int_met : (i look : ℕ) (refill : Option ℕ) (width : ℕ) → i ≤ length xs → FitsBatch width →
      slice_get es i ≡ Some (Int look refill width false) →
      int_of lists c width ((state i).fills width) ≡ next_bytes width (batch_at width (model i))
  next_int_met i look refill width within fits at = go ((state i).fills width) refl
    where
      replays : CpuReplays lists c (take i es) (model i)
      replays = cpu_replays lanes c lists xs lane i within

      keeps : false ≡ must_fill look width ((state i).fills width)
      keeps =
          let P : CpuState → Type 0 = λ s. CpuFits s (Int look refill width false) in
          (subst P (state_before lanes c lists xs lane i)
          (fits_before lanes c lists xs lane i (Int look refill width false) at)).fills

      go : (o : Option Fill) → (state i).fills width ≡ o →
          int_of lists c width o ≡ next_bytes width (batch_at width (model i))
      go None is = let p : false ≡ true = keeps ∙ ap (must_fill look width) is in cc
      go (Some fill) is =
          let b : BatchReplays lists c width fill (batch_at width (model i)) =
          replays.batches width fill fits.some fits.within is in
          sym (next_bytes-batched_int width (cpu_used_at lists c fill.place) fill (batch_at width (model i)) b.rest
          (not_used_up look width fill (keeps ∙ ap (must_fill look width) is)))

  serves_met : (i : ℕ) (x : Visit) (e : CpuEntry) → slice_get xs i ≡ Some x → x.entry ≡ Cpu e → IsIntOfBatch e →
      cpu_serves lists c (state i).fills (cpu_value_in_use lists e (cpu_value_after lists (take i es))) e
      ≡ cpu_serving (model i) x.got e
  serves_met i x (Read look refill taken) at is fits =
      ap (λ key. taken_bytes key taken) (sym (cpu_used_before lanes c lists xs lane i x (Read look refill taken) at is))
  serves_met i x (Int look refill width true) at is fits =
      ap (λ key. batched_int key width 0)
      (sym (cpu_used_before lanes c lists xs lane i x (Int look refill width true) at is))
  serves_met i x (Int look refill width false) at is fits =
      let within : i < length xs = slice_get_within xs i x at in
      next_int_met i look refill width (omega arith) fits
      (cpu_entered_at lanes c lists xs lane i x (Int look refill width false) at is)
  serves_met i x (Irq v1 v2 now) at is fits = refl
  serves_met i x (Dump now) at is fits = refl
  serves_met i x Prepare at is fits = refl
  serves_met i x Online at is fits = refl

  pub cpu_met : (i : ℕ) (x : Visit) (e : CpuEntry) → slice_get xs i ≡ Some x → x.entry ≡ Cpu e → IsIntOfBatch e →
      CpuMet lists c i (model i) x.got e
  cpu_met i x e at is fits =
      let within : i < length xs = slice_get_within xs i x at in
      let replays : CpuReplays lists c (take i es) (model i) = cpu_replays lanes c lists xs lane i (omega arith) in
      let value : List ℕ = cpu_value_after lists (take i es) in
      let here : RefillHanded lists c i e x.got = lane.handed i x e at is in
      let front : take i es ≡ take i (cpu_list lists c) = ap (take i) (sym lane.listed) in
      record {
        effect = ap (effect_or (λ e. at_cpu (cpu_visit lists c i e)))
            (ap (λ es. slice_get es i) lane.listed ∙ cpu_entered_at lanes c lists xs lane i x e at is);
        before = ap (λ es. (cpu_after lists.base c es).generation) (sym front)
            ∙ sym (ap (λ (v : CpuValue). v.generation) replays.cpu);
        fills = λ width. ap (λ es. bare ((cpu_after lists.base c es).fills width)) (sym front)
            ∙ sym (replays.fills width);
        after = ap (λ es. (cpu_step lists.base c (cpu_after lists.base c es) e).generation) (sym front)
            ∙ sym (ap (λ (v : CpuValue). v.generation)
            (ap (cpu.after_entry e (generator_of x.got)) replays.cpu
            ∙ after_entry-cpu_at lists c (state i) value e (generator_of x.got) here.handed));
        serves = ap (λ es. cpu_serves lists c (cpu_after lists.base c es).fills
            (cpu_value_in_use lists e (cpu_value_after lists es)) e) (sym front)
            ∙ serves_met i x e at is fits;
      }

module _ (lanes : ℕ) (visits : ℕ → List Visit) (callers : StateLists) (ok : ClosedLanes lanes visits) where
  abbrev book : Lists
  book = book_lists lanes visits callers

  sides : SameHeldLane lanes (visits 0) (visits 1)
  sides = beside lanes visits callers ok

  -- the pool's visit `x` at place `i`, with the entry `e`, has an effect in the book that agrees with the pool's model
  -- before the visit
  pub pool_effect : (i : ℕ) (x : Visit) (e : PoolEntry) → slice_get (visits 0) i ≡ Some x → x.entry ≡ Pool e →
      PoolMet book i (replay (take i (visits 0))).pool e
  pool_effect i x e at is =
      let within : i < length (visits 0) = slice_get_within (visits 0) i x at in
      let before : pool_after (take i book.pool) ≡ (replay (take i (visits 0))).pool =
      sym (pool_before lanes (visits 0) sides.pool i (omega arith)) in
      record {
        effect = ap (effect_or (λ e. at_pool (pool_visit book i e)))
            (entered_at pool_kind lanes (visits 0) sides.pool i x e at is);
        before = before;
        after = ap (λ s. pool_step s e) before;
      }

  -- the base's visit `x` at place `i`, with the entry `e`, has an effect in the book that agrees with the base's model
  -- before the visit
  pub base_effect : (i : ℕ) (x : Visit) (e : BaseEntry) → slice_get (visits 1) i ≡ Some x → x.entry ≡ Base e →
      BaseMet book i (replay (take i (visits 1))).base x.got e
  base_effect i x e at is =
      let within : i < length (visits 1) = slice_get_within (visits 1) i x at in
      let s : BaseState = base_after (take i book.base) in
      let value : List ℕ = base_value_after book.pool (take i book.base) in
      let before : (replay (take i (visits 1))).base ≡ base_at s value =
      base_before lanes (visits 0) (visits 1) sides i (omega arith) in
      let after : after_entry e x.got.key (replay (take i (visits 1))).base
      ≡ base_at (base_step s e) (base_value_step book.pool value e) =
      ap (after_entry e x.got.key) before
      ∙ after_entry-base_at book.pool s value x.got.key e (root_handed lanes (visits 0) (visits 1) sides i x e at is) in
      record {
        effect = ap (effect_or (λ e. at_base (base_visit book i e)))
            (base_entered lanes (visits 0) (visits 1) sides i x e at is);
        before = ap (λ (b : BaseValue). base_at s b.key) before ∙ sym before;
        after = ap (λ (b : BaseValue). base_at (base_step s e) b.key) after ∙ sym after;
        serves = ap (λ key. base_serves key e) (sym (base_used lanes (visits 0) (visits 1) sides i x e at is));
      }

  -- the visit `x` of CPU `c` at place `i`, with the entry `e`, has an effect in the book that agrees with the CPU's
  -- model before the visit
  pub cpu_effect : (c i : ℕ) (x : Visit) (e : CpuEntry) → c + 2 < lanes → slice_get (visits (c + 2)) i ≡ Some x →
      x.entry ≡ Cpu e → IsIntOfBatch e → CpuMet book c i (replay (take i (visits (c + 2)))).cpu x.got e
  cpu_effect c i x e below =
      cpu_met lanes c book (visits (c + 2)) (cpu_lane_of lanes visits callers ok c below) i x e
