-- Before each place of a CPU's list, the CPU's model (its value in the proofs) agrees with the entries before that
-- place: in the generator, in the fills (without keys and places), in the bytes of the batches, and in the fast pool.
use Rattle.std.proofs.Common.{◌≡◌, ℕ, suc, ◌+◌, ◌≤◌, ◌<◌, Bool, true, false, List, length, take, refl, sym, ap, ◌∙◌, subst, arith, Some, None, Option}
use Rattle.std.specs.Prelude.{◌==◌, slice_get, if◌then◌else◌}
use Rattle.std.specs.List.{fold}
use Rattle.std.proofs.lemmas.Option.{slice_get_within}
use Rattle.key_names.specs.declared.names.KeyName.{KeyName}
use Rattle.key_names.specs.declared.entries.CpuEntry.{CpuEntry}
use Rattle.key_names.specs.declared.entries.CpuEntry.TheVariants.{Read, Int, Irq, Dump, Prepare, Online}
use Rattle.key_names.specs.Kernel.Batches.{Fill, fills_after, one_more_served, batch_step, batch_pos, with_zeros}
use Rattle.key_names.specs.Lanes.BaseList.{refill_at}
use Rattle.key_names.specs.Lanes.CpuList.{cpu_after, cpu_key_in_use, base_refill_of}
use Rattle.key_names.specs.Kernel.FastPool.{fast_start, fast_step, fast_after}
use Rattle.key_names.specs.Keys.KeyInUse.{cpu_value_in_use, cpu_value_after}
use Rattle.key_names.specs.Keys.LiveMaterial.{CpuBytes, cpu_bytes_start, cpu_bytes_step}
use Rattle.key_names.specs.Lanes.Book.{Lists, cpu_list}
use Rattle.key_names.proofs.Values.HeldBytes.{bytes_named, bytes_value}
use Rattle.cpu_gen.specs.CpuValue.{CpuValue, cpu_at, after_entry, after_entries}
use Rattle.cpu_gen.proofs.Entries.{HandsRefill, refilled-handed_at, after_entry-cpu_at}
use Rattle.lane_table.specs.declared.view.LaneEntry.TheVariants.{Cpu}
use Rattle.lane_table.specs.declared.view.Visit.{Visit}
use Rattle.lane_table.specs.declared.view.Handed.{Handed}
use Rattle.lane_table.specs.Meaning.{Model, CpuModel, LawfulLane, model_step, start_model, replay, made_of, generator_of, cpu_used, cpu_entered}
use Rattle.lane_table.specs.BookLists.{entries, cpu_entry}
use Rattle.lane_table.specs.BookLaws.{bare}
use Rattle.lane_table.proofs.Lists.Places.{fold_next, at_each_place}
use Rattle.lane_table.proofs.Book.BookEntries.{VisitAt, lane_at, entered_at, cpu_kind}

one_more_bare : (o : Option Fill) → one_more_served (bare o) ≡ bare (one_more_served o)
one_more_bare None = refl
one_more_bare (Some fill) = refl

batch_pos_bare : (width : ℕ) (o : Option Fill) → batch_pos width (bare o) ≡ batch_pos width o
batch_pos_bare width None = refl
batch_pos_bare width (Some fill) = refl

-- if each fill of `f` equals the fill of `g` without its key and place, then the fills after an entry are equal in the
-- same way
module _ (place : ℕ) (key : Option KeyName) (f g : ℕ → Option Fill) (same : (w : ℕ) → f w ≡ bare (g w)) where
  filled : (w look : ℕ) (b : Bool) →
      (if b then Some (record { key = None; place = 0; count = 1; look = look }) else f w)
      ≡ bare (if b then Some (record { key = key; place = place; count = 1; look = look }) else g w)
  filled w look true = refl
  filled w look false = same w

  served : (w : ℕ) (b : Bool) →
      (if b then one_more_served (f w) else f w) ≡ bare (if b then one_more_served (g w) else g w)
  served w true = ap one_more_served (same w) ∙ one_more_bare (g w)
  served w false = same w

  fills_bare : (e : CpuEntry) (w : ℕ) → fills_after 0 e None f w ≡ bare (fills_after place e key g w)
  fills_bare (Read look refill taken) w = same w
  fills_bare (Int look refill width true) w = filled w look (w == width)
  fills_bare (Int look refill width false) w = served w (w == width)
  fills_bare (Irq v1 v2 now) w = same w
  fills_bare (Dump now) w = same w
  fills_bare Prepare w = refl
  fills_bare Online w = same w

batch_bare : (w : ℕ) (used : List ℕ) (o : Option Fill) (bytes : List ℕ) (e : CpuEntry) →
    batch_step w used (bare o) bytes e ≡ batch_step w used o bytes e
batch_bare w used o bytes (Read look refill taken) = refl
batch_bare w used o bytes (Int look refill width true) = refl
batch_bare w used o bytes (Int look refill width false) =
    ap (λ pos. if w == width then with_zeros pos w bytes else bytes) (batch_pos_bare w o)
batch_bare w used o bytes (Irq v1 v2 now) = refl
batch_bare w used o bytes (Dump now) = refl
batch_bare w used o bytes Prepare = refl
batch_bare w used o bytes Online = refl

-- the model `m` agrees with the values `s`, which the first `i` entries of the list give
pub record CpuAlike (i : ℕ) (m : CpuModel) (s : CpuBytes) : Type 0 where
  pub at : s.named.place ≡ i
  pub cpu : m.cpu ≡ cpu_at s.named s.value
  pub fills : (w : ℕ) → m.fills w ≡ bare (s.named.fills w)
  pub bytes : (w : ℕ) → m.bytes w ≡ s.batch w

module _ (lists : Lists) (c : ℕ) where
  -- if the model `m` agrees with the values `s`, both give the same value of the key in use at the entry `e`
  pub used_met : (i : ℕ) (m : CpuModel) (s : CpuBytes) (e : CpuEntry) (got : Handed) →
      HandsRefill lists e (generator_of got) →
      CpuAlike i m s → cpu_used e got m.cpu ≡ cpu_value_in_use lists e s.value
  used_met i m s e got handed met =
      ap (λ v. cpu_used e got v) met.cpu
      ∙ ap (λ (v : CpuValue). v.key)
      (refilled-handed_at lists (base_refill_of e) (generator_of got) s.named.generation s.value handed)

  pub met_next : (i : ℕ) (m : CpuModel) (s : CpuBytes) (e : CpuEntry) (got : Handed) →
      HandsRefill lists e (generator_of got) →
      CpuAlike i m s → CpuAlike (suc i) (cpu_entered e got m) (cpu_bytes_step lists c s e)
  met_next i m s e got handed met = record {
    at = ap suc met.at;
    cpu = ap (after_entry e (generator_of got)) met.cpu
        ∙ after_entry-cpu_at lists c s.named s.value e (generator_of got) handed;
    fills = fills_bare s.named.place (cpu_key_in_use e s.named.key) m.fills s.named.fills met.fills e;
    bytes = λ w.
        ap (λ used. batch_step w used (m.fills w) (m.bytes w) e) (used_met i m s e got handed met)
        ∙ ap (λ o. batch_step w (cpu_value_in_use lists e s.value) o (m.bytes w) e) (met.fills w)
        ∙ batch_bare w (cpu_value_in_use lists e s.value) (s.named.fills w) (m.bytes w) e
        ∙ ap (λ bytes. batch_step w (cpu_value_in_use lists e s.value) (s.named.fills w) bytes e) (met.bytes w);
  }

-- the entry `e` at place `i` of CPU `c` receives the key that the base's refill for this place hands over
pub record RefillHanded (lists : Lists) (c i : ℕ) (e : CpuEntry) (got : Handed) : Type 0 where
  pub handed : HandsRefill lists e (generator_of got)
  pub answers : (b : ℕ) → base_refill_of e ≡ Some b → refill_at lists.base b ≡ Some (c, i)

-- the list of CPU `c` in a book: it is lawful, and each entry receives the key that the named refill hands over
pub record CpuLane (lanes c : ℕ) (lists : Lists) (xs : List Visit) : Type 0 where
  pub lawful : LawfulLane lanes (c + 2) xs
  pub handed : (i : ℕ) (x : Visit) (e : CpuEntry) → slice_get xs i ≡ Some x → x.entry ≡ Cpu e →
      RefillHanded lists c i e x.got
  pub listed : cpu_list lists c ≡ entries cpu_entry xs

module _ (lanes c : ℕ) (lists : Lists) (xs : List Visit) (lane : CpuLane lanes c lists xs) where
  abbrev pub es : List CpuEntry
  es = entries cpu_entry xs

  pub cpu_visit_at : (i : ℕ) (x : Visit) → slice_get xs i ≡ Some x → VisitAt (cpu_kind c) lanes xs i x
  cpu_visit_at = lane_at (cpu_kind c) lanes xs lane.lawful

  pub cpu_entered_at : (i : ℕ) (x : Visit) (e : CpuEntry) → slice_get xs i ≡ Some x → x.entry ≡ Cpu e →
      slice_get es i ≡ Some e
  cpu_entered_at = entered_at (cpu_kind c) lanes xs lane.lawful

  abbrev pub bytes_before : ℕ → CpuBytes
  bytes_before i = fold (cpu_bytes_step lists c) cpu_bytes_start (take i es)

  pub cpu_met : (i : ℕ) → i ≤ length xs → CpuAlike i (replay (take i xs)).cpu (bytes_before i)
  cpu_met = at_each_place xs (λ i. CpuAlike i (replay (take i xs)).cpu (bytes_before i))
      (record { at = refl; cpu = refl; fills = λ w. refl; bytes = λ w. refl })
      (λ i x is now.
      let v : VisitAt (cpu_kind c) lanes xs i x = cpu_visit_at i x is in
      let m : (replay (take (suc i) xs)).cpu ≡ cpu_entered v.entry x.got (replay (take i xs)).cpu =
      ap (λ (m : Model). m.cpu) (fold_next model_step start_model xs i x is)
      ∙ ap (λ e. (made_of (replay (take i xs)) e x.got).cpu) v.is in
      let s : bytes_before (suc i) ≡ cpu_bytes_step lists c (bytes_before i) v.entry =
      fold_next (cpu_bytes_step lists c) cpu_bytes_start es i v.entry v.conforms in
      let P : CpuModel → Type 0 = λ m. CpuAlike (suc i) m (bytes_before (suc i)) in
      let Q : CpuBytes → Type 0 = λ s. CpuAlike (suc i) (cpu_entered v.entry x.got (replay (take i xs)).cpu) s in
      subst P (sym m) (subst Q (sym s)
      (met_next lists c i (replay (take i xs)).cpu (bytes_before i) v.entry x.got
      (lane.handed i x v.entry is v.is).handed now)))

  pub fast_before : (i : ℕ) → i ≤ length xs → (replay (take i xs)).cpu.fast ≡ fast_after (take i es)
  fast_before = at_each_place xs (λ i. (replay (take i xs)).cpu.fast ≡ fast_after (take i es)) refl
      (λ i x is now.
      let v : VisitAt (cpu_kind c) lanes xs i x = cpu_visit_at i x is in
      ap (λ (m : Model). m.cpu.fast) (fold_next model_step start_model xs i x is)
      ∙ ap (λ e. (made_of (replay (take i xs)) e x.got).cpu.fast) v.is
      ∙ ap (λ f. fast_step f v.entry) now
      ∙ sym (fold_next fast_step fast_start es i v.entry v.conforms))

  -- before each place `i`, the CPU's state with names of keys is the one that the book gives
  pub state_before : (i : ℕ) → (bytes_before i).named ≡ cpu_after lists.base c (take i es)
  state_before i = bytes_named lists c cpu_bytes_start (take i es)

  pub value_before : (i : ℕ) → (bytes_before i).value ≡ cpu_value_after lists (take i es)
  value_before i = bytes_value lists c cpu_bytes_start (take i es)

  pub cpu_before : (i : ℕ) → i ≤ length xs → (replay (take i xs)).cpu.cpu ≡ after_entries lists c (take i es)
  cpu_before i within =
      let met : CpuAlike i (replay (take i xs)).cpu (bytes_before i) = cpu_met i within in
      met.cpu ∙ (λ k. cpu_at (state_before i k) (value_before i k))

  pub cpu_used_before : (i : ℕ) (x : Visit) (e : CpuEntry) → slice_get xs i ≡ Some x → x.entry ≡ Cpu e →
      cpu_used e x.got (replay (take i xs)).cpu.cpu ≡ cpu_value_in_use lists e (cpu_value_after lists (take i es))
  cpu_used_before i x e at is =
      let within : i < length xs = slice_get_within xs i x at in
      used_met lists c i (replay (take i xs)).cpu (bytes_before i) e x.got (lane.handed i x e at is).handed
      (cpu_met i (omega arith))
      ∙ ap (cpu_value_in_use lists e) (value_before i)
