-- If each lane's list is lawful, and the references between the lists agree, then the lists are lawful as a book.
use Rattle.std.proofs.Common.{◌≡◌, ℕ, ◌≤◌, ◌<◌, inl, inr, Bool, List, length, take, refl, sym, ap, ◌∙◌, subst, arith, Some, None, Option}
use Rattle.std.specs.Prelude.{slice_get}
use Rattle.std.proofs.lemmas.Option.{slice_get_within}
use Rattle.key_names.specs.declared.entries.PoolEntry.{PoolEntry}
use Rattle.key_names.specs.declared.entries.BaseEntry.{BaseEntry}
use Rattle.key_names.specs.declared.entries.BaseEntry.TheVariants.{Early, Reseed, Tick, Draw}
use Rattle.key_names.specs.declared.entries.CpuEntry.{CpuEntry}
use Rattle.key_names.specs.declared.entries.CpuEntry.TheVariants.{Read, Int, Irq, Dump, Prepare, Online}
use Rattle.key_names.specs.Lanes.PoolList.{extraction_at}
use Rattle.key_names.specs.Lanes.BaseList.{BaseState, BaseFits, BaseMayCome, RootConforms, LawfulBase, base_start, base_step, base_after, root_of, roots_after, refill_at, generation_at}
use Rattle.key_names.specs.Kernel.Batches.{Fill, must_fill}
use Rattle.key_names.specs.Lanes.CpuList.{CpuState, CpuFits, ReadFits, IntFits, CpuMayCome, RefillNames, RefillConforms, LawfulCpu, cpu_start, cpu_step, cpu_after, base_refill_of}
use Rattle.key_names.specs.Keys.KeyInUse.{base_value_after}
use Rattle.key_names.specs.Keys.LiveMaterial.{CpuBytes}
use Rattle.key_names.specs.Lanes.Book.{Lists}
use Rattle.base_gen.specs.BaseValue.{BaseValue, base_at, after_entries}
use Rattle.cpu_gen.specs.CpuValue.{CpuValue}
use Rattle.lane_table.specs.declared.view.LaneEntry.TheVariants.{Base}
use Rattle.lane_table.specs.declared.view.Visit.{Visit}
use Rattle.lane_table.specs.declared.view.Handed.{Handed}
use Rattle.lane_table.specs.Meaning.{Model, CpuModel, LawfulLane, IsLater, Reaches, LookReached, model_step, start_model, replay, after_of, least_after, base_state, cpu_state}
use Rattle.lane_table.specs.BookLists.{entries, base_entry, cpu_entry}
use Rattle.lane_table.specs.BookLaws.{bare}
use Rattle.lane_table.proofs.Lists.Places.{fold_next, at_each_place, counted, lawful_by_places}
use Rattle.lane_table.proofs.Book.BookEntries.{VisitAt, MadeAt, lane_at, made_at, base_kind, cpu_kind}
use Rattle.lane_table.proofs.Book.BookCpus.{CpuLane, CpuAlike, RefillHanded, cpu_met, state_before, bytes_before}

-- an entry that fits the base's value also fits the state of the base's list, whatever the state's other counts are
base_fits : (s : BaseState) (value : List ℕ) (e : BaseEntry) → BaseFits (base_state (base_at s value)) e → BaseFits s e
base_fits s value (Early None) fits = fits
base_fits s value (Early (Some root)) fits = fits
base_fits s value (Reseed root now) fits = fits
base_fits s value (Tick now None) fits = fits
base_fits s value (Tick now (Some root)) fits = fits
base_fits s value (Draw None taken) fits = fits
base_fits s value (Draw (Some root) taken) fits = fits
base_fits s value _ fits = fits

least_roots : (o : Option ℕ) (least : ℕ) → least_after o least ≡ roots_after o least
least_roots None least = refl
least_roots (Some place) least = refl

root_conforms : (pool : List PoolEntry) (s : BaseState) (o : Option ℕ) (least : ℕ) → least ≡ s.roots → IsLater least o →
    ((place : ℕ) → o ≡ Some place → extraction_at pool place ≡ Some s.place) → RootConforms pool s o
root_conforms pool s None least same later named = tt
root_conforms pool s (Some place) least same later named = (omega arith, named place refl)

-- `xs` is the base's list, and is lawful. If one of its entries names a root, the extraction of that root names the
-- entry's place
module _ (lanes : ℕ) (pool : List PoolEntry) (xs : List Visit) (lawful : LawfulLane lanes 1 xs)
    (value : (i : ℕ) → i ≤ length xs → (replay (take i xs)).base ≡ after_entries pool (take i (entries base_entry xs)))
    (rooted : (i place : ℕ) (x : Visit) (e : BaseEntry) → slice_get xs i ≡ Some x → x.entry ≡ Base e →
    root_of e ≡ Some place → extraction_at pool place ≡ Some i) where
  abbrev es : List BaseEntry
  es = entries base_entry xs

  roots_before : (i : ℕ) → i ≤ length xs → (replay (take i xs)).least ≡ (base_after (take i es)).roots
  roots_before = at_each_place xs (λ i. (replay (take i xs)).least ≡ (base_after (take i es)).roots) refl
      (λ i x is now.
      let v : VisitAt base_kind lanes xs i x = lane_at base_kind lanes xs lawful i x is in
      ap (λ (m : Model). m.least) (fold_next model_step start_model xs i x is)
      ∙ ap (λ e. least_after (after_of e) (replay (take i xs)).least) v.is
      ∙ least_roots (root_of v.entry) (replay (take i xs)).least ∙ ap (roots_after (root_of v.entry)) now
      ∙ sym (ap (λ (s : BaseState). s.roots) (fold_next base_step base_start es i v.entry v.conforms)))

  base_may : (i : ℕ) (e : BaseEntry) → slice_get es i ≡ Some e → BaseMayCome pool (base_after (take i es)) e
  base_may i e is =
      let m : MadeAt base_kind lanes xs i e = made_at base_kind lanes xs lawful i e is in
      let within : i < length es = slice_get_within es i e is in
      let below : i < length xs = m.within in
      let s : BaseState = base_after (take i es) in
      let at : s.place ≡ i =
      counted (λ (s : BaseState). s.place) base_step (λ s e. refl) base_start es refl i (omega arith) in
      let FitsAt : BaseValue → Type 0 = λ b. BaseFits (base_state b) e in
      record {
        fits = base_fits s (base_value_after pool (take i es)) e (subst FitsAt (value i (omega arith)) m.fits);
        root = root_conforms pool s (root_of e) (replay (take i xs)).least (roots_before i (omega arith)) m.later
            (λ place names. rooted i place m.visit e m.conforms m.is names ∙ ap Some (sym at));
      }

  pub lawful_base : LawfulBase pool es
  lawful_base = lawful_by_places (BaseMayCome pool) base_step base_start es base_may

-- whether a batch must be filled again does not depend on the key and the place of its last fill
must_fill_bare : (look width : ℕ) (o : Option Fill) → must_fill look width (bare o) ≡ must_fill look width o
must_fill_bare look width None = refl
must_fill_bare look width (Some fill) = refl

-- if the model `m` agrees with the values `s`, an entry that fits `m` also fits the state of the CPU's list
module _ (i : ℕ) (m : CpuModel) (s : CpuBytes) (met : CpuAlike i m s) where
  generation_met : m.cpu.generation ≡ s.named.generation
  generation_met = ap (λ (v : CpuValue). v.generation) met.cpu

  read_fits : (look : ℕ) (refill : Option ℕ) → ReadFits (cpu_state m) look refill → ReadFits s.named look refill
  read_fits look refill h =
      let g : m.cpu.generation ≡ s.named.generation = generation_met in
      let back : m.cpu.generation ≤ look = h.looks.not_back in
      record {
        looks = record { known = h.looks.known; not_back = omega arith };
        names = ((λ none. h.names.0 none ∙ g), (λ same. h.names.1 (same ∙ sym g)));
      }

  int_fits : (look : ℕ) (refill : Option ℕ) (width : ℕ) (filled : Bool) →
      IntFits (cpu_state m) look refill width filled → IntFits s.named look refill width filled
  int_fits look refill width filled h =
      let g : m.cpu.generation ≡ s.named.generation = generation_met in
      let back : m.cpu.generation ≤ look = h.looks.not_back in
      record {
        looks = record { known = h.looks.known; not_back = omega arith };
        fills = h.fills ∙ ap (must_fill look width) (met.fills width) ∙ must_fill_bare look width (s.named.fills width);
        names = (
          (λ none. elim (h.names.0 none) [ inl idle ↦ inl idle | inr same ↦ inr (same ∙ g) ]),
          (λ why. h.names.1 (elim why [ inl idle ↦ inl idle | inr same ↦ inr (same ∙ sym g) ])),
        );
      }

  cpu_fits : (e : CpuEntry) → CpuFits (cpu_state m) e → CpuFits s.named e
  cpu_fits (Read look refill taken) h = read_fits look refill h
  cpu_fits (Int look refill width filled) h = int_fits look refill width filled h
  cpu_fits (Irq v1 v2 now) h = h
  cpu_fits (Dump now) h = h
  cpu_fits Prepare h = h
  cpu_fits Online h = h

-- if an entry names a refill, `RefillNames` holds: the refill is in the base's list, and its generation is at least the
-- entry's look
refill_names : (lists : Lists) (c i look : ℕ) (refill : Option ℕ) (got : Handed) → Reaches refill look got →
    ((b : ℕ) → refill ≡ Some b →
    (refill_at lists.base b ≡ Some (c, i)) × (got.generation ≡ generation_at lists.base b)) →
    RefillNames lists.base c i look refill
refill_names lists c i look None got reaches named = tt
refill_names lists c i look (Some b) got reaches named =
    let n = named b refl in let g : got.generation ≡ generation_at lists.base b = n.1 in (n.0, omega arith)

module _ (lists : Lists) (c i : ℕ) (got : Handed) where
  from_base : (e : CpuEntry) → RefillHanded lists c i e got → (b : ℕ) → base_refill_of e ≡ Some b →
      (refill_at lists.base b ≡ Some (c, i)) × (got.generation ≡ generation_at lists.base b)
  from_base e h b names = (h.answers b names, ap (λ (v : CpuValue). v.generation) (h.handed b names))

  refill_conforms : (e : CpuEntry) → LookReached e got → RefillHanded lists c i e got → RefillConforms lists.base c i e
  refill_conforms (Read look refill taken) reached h =
      refill_names lists c i look refill got reached (from_base (Read look refill taken) h)
  refill_conforms (Int look refill width filled) reached h =
      refill_names lists c i look refill got reached (from_base (Int look refill width filled) h)
  refill_conforms (Irq v1 v2 now) reached h = tt
  refill_conforms (Dump now) reached h = tt
  refill_conforms Prepare reached h = tt
  refill_conforms Online reached h = tt

-- `xs` is the list of CPU `c`. Each refill that one of its entries names is in the base's list
module _ (lanes c : ℕ) (lists : Lists) (xs : List Visit) (lane : CpuLane lanes c lists xs) where
  abbrev cpu_es : List CpuEntry
  cpu_es = entries cpu_entry xs

  pub fits_before : (i : ℕ) (e : CpuEntry) → slice_get cpu_es i ≡ Some e →
      CpuFits (bytes_before lanes c lists xs lane i).named e
  fits_before i e is =
      let m : MadeAt (cpu_kind c) lanes xs i e = made_at (cpu_kind c) lanes xs lane.lawful i e is in
      let within : i < length xs = m.within in
      cpu_fits i (replay (take i xs)).cpu (bytes_before lanes c lists xs lane i)
      (cpu_met lanes c lists xs lane i (omega arith)) e m.fits.0

  conforms_before : (i : ℕ) (e : CpuEntry) → slice_get cpu_es i ≡ Some e →
      RefillConforms lists.base c (bytes_before lanes c lists xs lane i).named.place e
  conforms_before i e is =
      let m : MadeAt (cpu_kind c) lanes xs i e = made_at (cpu_kind c) lanes xs lane.lawful i e is in
      let within : i < length xs = m.within in
      let met : CpuAlike i (replay (take i xs)).cpu (bytes_before lanes c lists xs lane i) =
      cpu_met lanes c lists xs lane i (omega arith) in
      let P : ℕ → Type 0 = λ place. RefillConforms lists.base c place e in
      subst P (sym met.at) (refill_conforms lists c i m.visit.got e m.fits.1 (lane.handed i m.visit e m.conforms m.is))

  cpu_may : (i : ℕ) (e : CpuEntry) → slice_get cpu_es i ≡ Some e →
      CpuMayCome lists.base c (cpu_after lists.base c (take i cpu_es)) e
  cpu_may i e is =
      let P : CpuState → Type 0 = λ s. CpuMayCome lists.base c s e in
      subst P (state_before lanes c lists xs lane i)
      (record { fits = fits_before i e is; refill = conforms_before i e is })

  pub lawful_cpu : LawfulCpu lists.base c cpu_es
  lawful_cpu = lawful_by_places (CpuMayCome lists.base c) (cpu_step lists.base c) cpu_start cpu_es cpu_may
