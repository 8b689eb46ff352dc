-- Before each place of a CPU's list, the CPU's whole model (its value in the proofs) is the one that the book gives.
use Rattle.std.proofs.Common.{◌≡◌, ℕ, ◌≤◌, ◌<◌, List, length, take, replicate, refl, sym, ap, ◌∙◌, subst, arith, Some, Option}
use Rattle.std.specs.Prelude.{slice_get}
use Rattle.std.proofs.lemmas.Option.{slice_get_within}
use Rattle.key_names.specs.declared.entries.CpuEntry.{CpuEntry}
use Rattle.key_names.specs.Kernel.Batches.{Fill, batch_pos}
use Rattle.key_names.specs.Lanes.CpuList.{CpuState, CpuMayCome, cpu_start, cpu_step, cpu_after}
use Rattle.key_names.specs.Keys.KeyInUse.{cpu_value_in_use, cpu_value_after, cpu_value_at, cpu_used_at}
use Rattle.key_names.specs.Keys.LiveMaterial.{CpuBytes, cpu_bytes_start, cpu_bytes_step}
use Rattle.key_names.specs.Lanes.Book.{Lists}
use Rattle.key_names.proofs.Lists.Growing.{lawful_take}
use Rattle.key_names.proofs.Uses.BatchBytes.{BatchOk, cpu_batches_ok}
use Rattle.int_batch.specs.BatchValue.{BatchValue}
use Rattle.lane_table.specs.declared.view.LaneEntry.TheVariants.{Cpu}
use Rattle.lane_table.specs.declared.view.Visit.{Visit}
use Rattle.lane_table.specs.Meaning.{CpuModel, cpu_used, batch_of, batch_at, replay}
use Rattle.lane_table.specs.BookLists.{entries, cpu_entry}
use Rattle.lane_table.specs.BookLaws.{bare, BatchReplays, CpuReplays}
use Rattle.lane_table.proofs.Lists.Places.{fold_next, at_each_place}
use Rattle.lane_table.proofs.Book.BookEntries.{VisitAt, cpu_kind}
use Rattle.lane_table.proofs.Book.BookCpus.{CpuLane, CpuAlike, bytes_before, cpu_met, cpu_visit_at, cpu_entered_at, cpu_used_before, cpu_before, fast_before, state_before, value_before}
use Rattle.lane_table.proofs.Book.BookBatches.{RestOf, rest_next}
use Rattle.lane_table.proofs.Book.BookLawful.{fits_before, lawful_cpu}

module _ (lanes c : ℕ) (lists : Lists) (xs : List Visit) (lane : CpuLane lanes c lists xs) where
  abbrev es : List CpuEntry
  es = entries cpu_entry xs

  abbrev before : ℕ → CpuBytes
  before i = bytes_before lanes c lists xs lane i

  abbrev model : ℕ → CpuModel
  model i = (replay (take i xs)).cpu

  -- the book defines the value of the key in use at a place in two ways, and both give the same value
  used_at : (i : ℕ) (e : CpuEntry) → slice_get es i ≡ Some e →
      cpu_value_in_use lists e (cpu_value_after lists (take i es)) ≡ cpu_used_at lists c i
  used_at i e is =
      ap (cpu_value_at lists (cpu_value_after lists (take i es))) (sym is)
      ∙ ap (λ es. cpu_value_at lists (cpu_value_after lists (take i es)) (slice_get es i)) (sym lane.listed)

  -- at the CPU's visit `x` with place `i`, the key in use in the model has the value that the book gives
  pub cpu_used_here : (i : ℕ) (x : Visit) (e : CpuEntry) → slice_get xs i ≡ Some x → x.entry ≡ Cpu e →
      cpu_used e x.got (model i).cpu ≡ cpu_used_at lists c i
  cpu_used_here i x e at is =
      cpu_used_before lanes c lists xs lane i x e at is
      ∙ used_at i e (cpu_entered_at lanes c lists xs lane i x e at is)

  rest_before : (width : ℕ) (some : 1 ≤ width) (within : width ≤ 96) (i : ℕ) → i ≤ length xs →
      RestOf lists c width some within ((before i).named.fills width) ((before i).batch width)
  rest_before width some within =
      at_each_place xs
      (λ i. RestOf lists c width some within ((before i).named.fills width) ((before i).batch width)) tt
      (λ i x is now.
      let below : i < length xs = slice_get_within xs i x is in
      let v : VisitAt (cpu_kind c) lanes xs i x = cpu_visit_at lanes c lists xs lane i x is in
      let met : CpuAlike i (model i) (before i) = cpu_met lanes c lists xs lane i (omega arith) in
      let P : CpuBytes → Type 0 = λ s. RestOf lists c width some within (s.named.fills width) (s.batch width) in
      subst P (sym (fold_next (cpu_bytes_step lists c) cpu_bytes_start es i v.entry v.conforms))
      (rest_next lists c width some within (before i).named v.entry (cpu_value_in_use lists v.entry (before i).value)
      ((before i).batch width)
      (ap (cpu_value_in_use lists v.entry) (value_before lanes c lists xs lane i)
      ∙ used_at i v.entry v.conforms ∙ ap (cpu_used_at lists c) (sym met.at))
      (fits_before lanes c lists xs lane i v.entry v.conforms) now))

  batch_ok : (width i : ℕ) → BatchOk width ((cpu_after lists.base c (take i es)).fills width) ((before i).batch width)
  batch_ok width i =
      cpu_batches_ok lists c width cpu_bytes_start (take i es)
      (lawful_take (CpuMayCome lists.base c) (cpu_step lists.base c) cpu_start es i (lawful_cpu lanes c lists xs lane))
      (record { served = refl; dead = λ e. refl })

  batch_replays : (width : ℕ) (fill : Fill) → 1 ≤ width → width ≤ 96 → (i : ℕ) → i ≤ length xs →
      (cpu_after lists.base c (take i es)).fills width ≡ Some fill →
      BatchReplays lists c width fill (batch_at width (model i))
  batch_replays width fill some within i below is =
      let met : CpuAlike i (model i) (before i) = cpu_met lanes c lists xs lane i below in
      let state : (before i).named ≡ cpu_after lists.base c (take i es) = state_before lanes c lists xs lane i in
      let named : (before i).named.fills width ≡ Some fill = ap (λ (s : CpuState). s.fills width) state ∙ is in
      let ok : BatchOk width ((cpu_after lists.base c (take i es)).fills width) ((before i).batch width) =
      batch_ok width i in
      let Zeros : Option Fill → Type 0 =
      λ o. take (batch_pos width o) ((before i).batch width) ≡ replicate (batch_pos width o) 0 in
      let b : BatchValue = record { bytes = (before i).batch width; position = fill.count; generation = fill.look } in
      let same : batch_at width (model i) ≡ b =
      ap (λ o. batch_of width o ((model i).bytes width)) (met.fills width ∙ ap bare named)
      ∙ ap (batch_of width (bare (Some fill))) (met.bytes width) in
      let P : Option Fill → Type 0 = λ o. RestOf lists c width some within o ((before i).batch width) in
      let Q : BatchValue → Type 0 = λ b. BatchReplays lists c width fill b in
      subst Q (sym same) (record {
        served = subst Zeros is ok.served;
        rest = subst P named (rest_before width some within i below);
      })

  pub cpu_replays : (i : ℕ) → i ≤ length xs → CpuReplays lists c (take i es) (model i)
  cpu_replays i below =
      let met : CpuAlike i (model i) (before i) = cpu_met lanes c lists xs lane i below in
      record {
        cpu = cpu_before lanes c lists xs lane i below;
        fast = fast_before lanes c lists xs lane i below;
        fills = λ width. met.fills width
            ∙ ap (λ (s : CpuState). bare (s.fills width)) (state_before lanes c lists xs lane i);
        bytes = met.bytes;
        unfilled = λ width none. met.bytes width
            ∙ (let ok : BatchOk width ((cpu_after lists.base c (take i es)).fills width) ((before i).batch width) =
            batch_ok width i in ok.dead none);
        batches = λ width fill some within. batch_replays width fill some within i below;
      }
