-- The loop of replay_cpu: after i entries, the code's CPU equals that of the definitions. The code has kept the right
-- data about these entries, and each of them was allowed.
use Rattle.std.proofs.Common.{◌≡◌, ◌<◌, ◌≤◌, ◌+◌, ◌/◌, ℕ, suc, List, [], ◌∷◌, ◌++◌, take, true, false, Bool, not, Option, Some, None, refl, sym, subst, ap, ◌∙◌, arith, inl, inr}
use Rattle.std.specs.Prelude.{slice_get, option_and_then, option_map, IsSome, nat_le, ◌||◌, ◌==◌, if◌then◌else◌}
use Rattle.key_names.specs.declared.names.KeyName.{KeyName}
use Rattle.key_names.specs.declared.entries.BaseEntry.{BaseEntry}
use Rattle.key_names.specs.declared.entries.BaseEntry.TheVariants.{Early, Reseed, Tick, Draw, Refill, Fork, End, Wait, Resume, Interrupt, Stall, Unstall}
use Rattle.key_names.specs.declared.entries.CpuEntry.{CpuEntry}
use Rattle.key_names.specs.declared.entries.CpuEntry.TheVariants.{Read, Int, Irq, Dump, Prepare, Online}
use Rattle.key_names.specs.Lanes.BaseList.{base_after, base_erases, refill_of, refill_at, reseeds_at, generation_after, generation_at}
use Rattle.key_names.specs.Kernel.Batches.{Fill, fills_after, must_fill, one_more_served}
use Rattle.key_names.specs.Lanes.CpuList.{CpuState, CpuFits, CpuMayCome, RefillConforms, base_refill_of, cpu_key_in_use, cpu_start, cpu_step, cpu_after}
use Rattle.key_names.specs.Keys.KeyInUse.{zero_key, base_used_at, base_call_value, cpu_value_in_use, cpu_value_step, cpu_value_after, cpu_value_at, cpu_used_at}
use Rattle.key_names.specs.Lanes.Book.{Lists, list_at, cpu_list}
use Rattle.key_names.specs.Callers.Effects.{cpu_visit}
use Rattle.cpu_gen.specs.CpuValue.{CpuValue, cpu_at, start}
use Rattle.cpu_gen.proofs.Entries.{handed_at}
use Rattle.judge_lines.specs.declared.inferred.CpuInferred.{CpuInferred}
use Rattle.judge_lines.specs.declared.inferred.CpuInferred.TheVariants.{Is as cpu_is, Batch as batch}
use Rattle.judge_log.specs.declared.kept.KeptBase.{KeptBase}
use Rattle.judge_log.specs.declared.kept.KeptCpu.{KeptCpu}
use Rattle.judge_log.specs.declared.last_fills.LastFill.{LastFill}
use Rattle.judge_log.specs.declared.last_fills.LastFills.{LastFills}
use Rattle.judge_log.specs.declared.inferred.InferredCpu.{InferredCpu}
use Rattle.judge_log.specs.Closed.{closed, cpu_inferred_entry}
use Rattle.judge_log.specs.CpuLane.{slot, put, no_fills, wants_kept, one_more_kept, HasRoom, RoomFor, cpu_closed, FitsKept, KeysKept, NamesIn, RefillConformsIn, HandedConforms, refill_named, key_used, cpu_entered, fills_entered, source_kept, source_entered, AllCpuMay}
use Rattle.judge_log.specs.Kept.{source_in, source_of, KeepsCpu, KeepsBaseLane}
use Rattle.judge_log.specs.Tables.{Tables, IsWidth, EntryIsWide, CpuIsWide}
use Rattle.std.proofs.lemmas.Grind.{common_steps}
use Rattle.judge_log.proofs.Dumps.{some_or_none}
use Rattle.judge_log.proofs.Filling.{closed_fills, closes_cpu}
use Rattle.judge_log.proofs.Loops.{After, after_none, after_more, at_too, fold_at}

-- ---- the batches of a CPU

-- the data that the replay keeps about a fill of a batch; `keys` has the CPU's key in use at each place
abbrev kept_fill : (ℕ → List ℕ) → Option Fill → Option LastFill
kept_fill keys None = None
kept_fill keys (Some fill) = Some (record { look = fill.look; key = keys fill.place; count = fill.count })

-- for each width of integers, `f` has the data kept about the last fill in `fills`
pub record FillsConform (keys : ℕ → List ℕ) (fills : ℕ → Option Fill) (f : LastFills) : Type 0 where
  pub one : f.one ≡ kept_fill keys (fills 1)
  pub two : f.two ≡ kept_fill keys (fills 2)
  pub four : f.four ≡ kept_fill keys (fills 4)
  pub eight : f.eight ≡ kept_fill keys (fills 8)

module _ (keys : ℕ → List ℕ) (fills : ℕ → Option Fill) (f : LastFills) (h : FillsConform keys fills f) where
  slot_is : (w : ℕ) → IsWidth w → slot f w ≡ kept_fill keys (fills w)
  slot_is w wide = elim wide [
    | inl e ↦ (let P : ℕ → Type 0 = λ x. slot f x ≡ kept_fill keys (fills x) in subst P (sym e) h.one)
    | inr r ↦ elim r [
      | inl e ↦ (let P : ℕ → Type 0 = λ x. slot f x ≡ kept_fill keys (fills x) in subst P (sym e) h.two)
      | inr q ↦ elim q [
        | inl e ↦ (let P : ℕ → Type 0 = λ x. slot f x ≡ kept_fill keys (fills x) in subst P (sym e) h.four)
        | inr e ↦ (let P : ℕ → Type 0 = λ x. slot f x ≡ kept_fill keys (fills x) in subst P (sym e) h.eight)
      ]
    ]
  ]

  wants_is : (look w : ℕ) → IsWidth w → wants_kept look w (slot f w) ≡ must_fill look w (fills w)
  wants_is look w wide = ap (wants_kept look w) (slot_is w wide) ∙ go (fills w)
    where
      go : (o : Option Fill) → wants_kept look w (kept_fill keys o) ≡ must_fill look w o
      go None = refl
      go (Some fill) = refl

-- if a batch of width `w` is not used up, it has served fewer than 96 integers
used_up : (w count : ℕ) → IsWidth w → (b : Bool) → nat_le (96 / w) count || b ≡ false → count < 96
used_up w count wide b is = elim wide [
  | inl e ↦ (let P : ℕ → Type 0 = λ x. nat_le (96 / x) count || b ≡ false in let h = subst P e is in below 96 h (omega arith))
  | inr r ↦ elim r [
    | inl e ↦ (let P : ℕ → Type 0 = λ x. nat_le (96 / x) count || b ≡ false in
        let h = subst P e is in below 48 h (omega arith))
    | inr q ↦ elim q [
      | inl e ↦ (let P : ℕ → Type 0 = λ x. nat_le (96 / x) count || b ≡ false in
          let h = subst P e is in below 24 h (omega arith))
      | inr e ↦ (let P : ℕ → Type 0 = λ x. nat_le (96 / x) count || b ≡ false in
          let h = subst P e is in below 12 h (omega arith))
    ]
  ]
]
  where
    below : (n : ℕ) → nat_le n count || b ≡ false → n ≤ 96 → count < 96
    below n h small = grind (arith, common_steps)

has_room : (look w : ℕ) → IsWidth w → (o : Option LastFill) → false ≡ wants_kept look w o → HasRoom o
has_room look w wide None is = cc
has_room look w wide (Some fill) is = used_up w fill.count wide (not (look == fill.look)) (sym is)

room_for : (g : ℕ) (f : LastFills) (e : CpuEntry) → EntryIsWide e → FitsKept g f e → RoomFor f e
room_for g f (Int look refill width true) wide fits = tt
room_for g f (Int look refill width false) wide fits = has_room look width wide (slot f width) fits.2
room_for g f (Read look refill taken) wide fits = tt
room_for g f (Irq v1 v2 now) wide fits = tt
room_for g f (Dump now) wide fits = tt
room_for g f Prepare wide fits = tt
room_for g f Online wide fits = tt

module _ (keys : ℕ → List ℕ) where
  one_more_is : (o : Option Fill) → one_more_kept (kept_fill keys o) ≡ kept_fill keys (one_more_served o)
  one_more_is None = refl
  one_more_is (Some fill) =
      let n : fill.count + 1 ≡ suc fill.count = omega arith in
      ap (λ c. Some (record { look = fill.look; key = keys fill.place; count = c })) n

  -- if `f` has the kept data of the last fill of each batch, this still holds after an integer fills its batch
  filled_more : (fills : ℕ → Option Fill) (f : LastFills) (place look w : ℕ) (name : Option KeyName) → IsWidth w →
      (refill : Option ℕ) → FillsConform keys fills f → FillsConform keys
      (fills_after place (Int look refill w true) name fills)
      (put w (Some (record { look = look; key = keys place; count = 1 })) f)
  filled_more fills f place look w name wide refill h = elim wide [
    | inl e ↦ subst P (sym e) (record { one = refl; two = h.two; four = h.four; eight = h.eight })
    | inr r ↦ elim r [
      | inl e ↦ subst P (sym e) (record { one = h.one; two = refl; four = h.four; eight = h.eight })
      | inr q ↦ elim q [
        | inl e ↦ subst P (sym e) (record { one = h.one; two = h.two; four = refl; eight = h.eight })
        | inr e ↦ subst P (sym e) (record { one = h.one; two = h.two; four = h.four; eight = refl })
      ]
    ]
  ]
    where
      P : ℕ → Type 0
      P x = FillsConform keys (fills_after place (Int look refill x true) name fills)
          (put x (Some (record { look = look; key = keys place; count = 1 })) f)

  -- if `f` has the kept data of the last fill of each batch, this still holds after a filled batch serves an integer
  served_more : (fills : ℕ → Option Fill) (f : LastFills) (place look w : ℕ) (name : Option KeyName) → IsWidth w →
      (refill : Option ℕ) → FillsConform keys fills f → FillsConform keys
      (fills_after place (Int look refill w false) name fills) (put w (one_more_kept (slot f w)) f)
  served_more fills f place look w name wide refill h = elim wide [
    | inl e ↦ subst P (sym e) (record { one = more 1 f.one h.one; two = h.two; four = h.four; eight = h.eight })
    | inr r ↦ elim r [
      | inl e ↦ subst P (sym e) (record { one = h.one; two = more 2 f.two h.two; four = h.four; eight = h.eight })
      | inr q ↦ elim q [
        | inl e ↦ subst P (sym e) (record { one = h.one; two = h.two; four = more 4 f.four h.four; eight = h.eight })
        | inr e ↦ subst P (sym e)
            (record { one = h.one; two = h.two; four = h.four; eight = more 8 f.eight h.eight })
      ]
    ]
  ]
    where
      P : ℕ → Type 0
      P x = FillsConform keys (fills_after place (Int look refill x false) name fills) (put x (one_more_kept (slot f x)) f)

      more : (x : ℕ) (o : Option LastFill) → o ≡ kept_fill keys (fills x) →
          one_more_kept o ≡ kept_fill keys (one_more_served (fills x))
      more x o is = ap one_more_kept is ∙ one_more_is (fills x)

  fills_more : (fills : ℕ → Option Fill) (f : LastFills) (place : ℕ) (name : Option KeyName) (e : CpuEntry) →
      EntryIsWide e → FillsConform keys fills f →
      FillsConform keys (fills_after place e name fills) (fills_entered e (keys place) f)
  fills_more fills f place name (Int look refill width true) wide h = filled_more fills f place look width name wide refill h
  fills_more fills f place name (Int look refill width false) wide h =
      served_more fills f place look width name wide refill h
  fills_more fills f place name (Read look refill taken) wide h =
      record { one = h.one; two = h.two; four = h.four; eight = h.eight }
  fills_more fills f place name (Irq v1 v2 now) wide h =
      record { one = h.one; two = h.two; four = h.four; eight = h.eight }
  fills_more fills f place name (Dump now) wide h =
      record { one = h.one; two = h.two; four = h.four; eight = h.eight }
  fills_more fills f place name Prepare wide h = record { one = refl; two = refl; four = refl; eight = refl }
  fills_more fills f place name Online wide h =
      record { one = h.one; two = h.two; four = h.four; eight = h.eight }

  -- the data kept about a batch's last fill `o` determine the same source of bytes as `o` itself
  source_in_is : (o : Option Fill) → source_kept (kept_fill keys o) ≡ source_in keys o
  source_in_is None = refl
  source_in_is (Some fill) = refl

  source_is : (fills : ℕ → Option Fill) (f : LastFills) (place : ℕ) (e : CpuEntry) → EntryIsWide e →
      FillsConform keys fills f → source_entered e (keys place) f ≡ source_of keys fills place e
  source_is fills f place (Int look refill width true) wide h = refl
  source_is fills f place (Int look refill width false) wide h =
      ap source_kept (slot_is keys fills f h width wide) ∙ source_in_is (fills width)
  source_is fills f place (Read look refill taken) wide h = refl
  source_is fills f place (Irq v1 v2 now) wide h = refl
  source_is fills f place (Dump now) wide h = refl
  source_is fills f place Prepare wide h = refl
  source_is fills f place Online wide h = refl

  -- if `f` has the kept data of the last fill of each batch, the code's check allows entry `e` exactly if the
  -- definition does
  fits_is : (s : CpuState) (f : LastFills) (e : CpuEntry) → EntryIsWide e → FillsConform keys s.fills f →
      (FitsKept s.generation f e → CpuFits s e) × (CpuFits s e → FitsKept s.generation f e)
  fits_is s f (Read look refill taken) wide h = (
    λ k. record { looks = record { known = k.0; not_back = k.1 }; names = k.2 },
    λ k. (k.looks.known, k.looks.not_back, k.names),
  )
  fits_is s f (Int look refill width filled) wide h = (
    λ k. record {
      looks = record { known = k.0; not_back = k.1 };
      fills = k.2 ∙ wants_is keys s.fills f h look width wide;
      names = k.3;
    },
    λ k. (k.looks.known, k.looks.not_back, k.fills ∙ sym (wants_is keys s.fills f h look width wide), k.names),
  )
  fits_is s f (Irq v1 v2 now) wide h = (λ k. k, λ k. k)
  fits_is s f (Dump now) wide h = (λ k. k, λ k. k)
  fits_is s f Prepare wide h = (λ k. k, λ k. k)
  fits_is s f Online wide h = (λ k. k, λ k. k)

  closed_is : (s : CpuState) (f : LastFills) (t : CpuInferred) → CpuIsWide t → FillsConform keys s.fills f →
      cpu_closed f t ≡ cpu_inferred_entry s t
  closed_is s f (cpu_is e) wide h = refl
  closed_is s f (batch look width) wide h =
      ap (λ filled. Int look None width filled) (wants_is keys s.fills f h look width wide)

pub closed_wide : (f : LastFills) (t : CpuInferred) → CpuIsWide t → EntryIsWide (cpu_closed f t)
closed_wide f (cpu_is e) wide = wide
closed_wide f (batch look width) wide = wide

-- ---- refills of a CPU by the base

refill_keeps : (e : BaseEntry) (named : ℕ × ℕ) → refill_of e ≡ Some named →
    (reseeds_at e ≡ None) × (base_erases e ≡ true)
refill_keeps (Refill cpu cpu_place) named is = (refl, refl)
refill_keeps (Early root) named is = cc
refill_keeps (Reseed root now) named is = cc
refill_keeps (Tick now root) named is = cc
refill_keeps (Draw root taken) named is = cc
refill_keeps (Fork child) named is = cc
refill_keeps End named is = cc
refill_keeps Wait named is = cc
refill_keeps Resume named is = cc
refill_keeps Interrupt named is = cc
refill_keeps Stall named is = cc
refill_keeps Unstall named is = cc

-- if each erased key is kept, the data `kept` about a refill of CPU `c` have a key
pub handed_none : (base : List KeptBase) → KeysKept base → (c place look b : ℕ) (kept : KeptBase) →
    slice_get base b ≡ Some kept → NamesIn c place look (Some kept) → kept.key ≡ None → ⊥
handed_none base keys c place look b kept is names none =
    let has = keys b kept is (refill_keeps kept.entry (c, place) names.0).1 in
    let never = subst (λ o. IsSome o) none has in
    cc

module _ (lists : Lists) (base : List KeptBase) (keeps : KeepsBaseLane base lists) where
  entry_at : (b : ℕ) (k : KeptBase) → slice_get base b ≡ Some k → (e : BaseEntry) × (slice_get lists.base b ≡ Some e)
  entry_at b k is = at_too lists.base base b k (sym keeps.count) is

  -- if the entry in `k` erases the base's key in use at place `b`, `k` has this key
  erased_key : (b : ℕ) (k : KeptBase) → slice_get base b ≡ Some k → base_erases k.entry ≡ true →
      k.key ≡ Some (base_used_at lists.pool lists.base b)
  erased_key b k is erases =
      let e = entry_at b k is in
      let one = keeps.each b k e.0 is e.1 in
      one.key
      ∙ ap (λ x. if x then Some (base_used_at lists.pool lists.base b) else None)
      (sym (ap base_erases one.entry) ∙ erases)

  pub keys_kept : KeysKept base
  keys_kept b k is erases = subst (λ o. IsSome o) (sym (erased_key b k is erases)) refl

  generation_is : (b : ℕ) (k : KeptBase) (named : ℕ × ℕ) → slice_get base b ≡ Some k → refill_of k.entry ≡ Some named →
      k.generation ≡ generation_at lists.base b
  generation_is b k named is refills =
      let e = entry_at b k is in
      let one = keeps.each b k e.0 is e.1 in
      let none = (refill_keeps e.0 named (sym (ap refill_of one.entry) ∙ refills)).0 in
      one.generation ∙ ap (λ o. generation_after o (base_after (take b lists.base)).generation) none

  names_there : (c place look b : ℕ) → NamesIn c place look (slice_get base b) →
      (refill_at lists.base b ≡ Some (c, place)) × (look ≤ generation_at lists.base b)
  names_there c place look b h = go (slice_get base b) refl h
    where
      go : (o : Option KeptBase) → slice_get base b ≡ o → NamesIn c place look o →
          (refill_at lists.base b ≡ Some (c, place)) × (look ≤ generation_at lists.base b)
      go None is n = absurd n
      go (Some k) is n =
          let e = entry_at b k is in
          let one = keeps.each b k e.0 is e.1 in (
            ap (option_and_then refill_of) e.1 ∙ sym (ap refill_of one.entry) ∙ n.0,
            subst (λ g. look ≤ g) (generation_is b k (c, place) is n.0) n.1,
          )

  names_back : (c place look b : ℕ) → refill_at lists.base b ≡ Some (c, place) → look ≤ generation_at lists.base b →
      NamesIn c place look (slice_get base b)
  names_back c place look b named looks = go (slice_get base b) refl
    where
      go : (o : Option KeptBase) → slice_get base b ≡ o → NamesIn c place look o
      go None is = elim (some_or_none (slice_get lists.base b)) [
        | inl none ↦ (let never : None ≡ Some (c, place) = sym (ap (option_and_then refill_of) none) ∙ named in cc)
        | inr e ↦ (let k : (x : KeptBase) × (slice_get base b ≡ Some x) = at_too base lists.base b e.0 keeps.count e.1 in
            let never : None ≡ Some k.0 = sym is ∙ k.1 in cc)
      ]
      go (Some k) is =
          let e = entry_at b k is in
          let one = keeps.each b k e.0 is e.1 in
          let refills : refill_of k.entry ≡ Some (c, place) =
          ap refill_of one.entry ∙ sym (ap (option_and_then refill_of) e.1) ∙ named in
          (refills, subst (λ g. look ≤ g) (sym (generation_is b k (c, place) is refills)) looks)

  refill_there : (c place : ℕ) (e : CpuEntry) → RefillConformsIn base c place (refill_named e) →
      RefillConforms lists.base c place e
  refill_there c place (Read look (Some b) taken) h = names_there c place look b h
  refill_there c place (Read look None taken) h = tt
  refill_there c place (Int look (Some b) width filled) h = names_there c place look b h
  refill_there c place (Int look None width filled) h = tt
  refill_there c place (Irq v1 v2 now) h = tt
  refill_there c place (Dump now) h = tt
  refill_there c place Prepare h = tt
  refill_there c place Online h = tt

  refill_back : (c place : ℕ) (e : CpuEntry) → RefillConforms lists.base c place e →
      RefillConformsIn base c place (refill_named e)
  refill_back c place (Read look (Some b) taken) h = names_back c place look b h.0 h.1
  refill_back c place (Read look None taken) h = tt
  refill_back c place (Int look (Some b) width filled) h = names_back c place look b h.0 h.1
  refill_back c place (Int look None width filled) h = tt
  refill_back c place (Irq v1 v2 now) h = tt
  refill_back c place (Dump now) h = tt
  refill_back c place Prepare h = tt
  refill_back c place Online h = tt

  handed_named : (c place look b : ℕ) (handed : Option CpuValue) → NamesIn c place look (slice_get base b) →
      HandedConforms base (Some (look, b)) handed → handed ≡ Some (handed_at lists b)
  handed_named c place look b handed n h = go (slice_get base b) refl n
    where
      go : (o : Option KeptBase) → slice_get base b ≡ o → NamesIn c place look o → handed ≡ Some (handed_at lists b)
      go None is n = absurd n
      go (Some k) is n =
          h k (base_used_at lists.pool lists.base b) is (erased_key b k is (refill_keeps k.entry (c, place) n.0).1)
          ∙ ap (λ g. Some (record { key = base_call_value lists b; generation = g }))
          (generation_is b k (c, place) is n.0)

  handed_is : (c place : ℕ) (e : CpuEntry) (handed : Option CpuValue) → RefillConformsIn base c place (refill_named e) →
      HandedConforms base (refill_named e) handed → handed ≡ option_map (handed_at lists) (base_refill_of e)
  handed_is c place (Read look (Some b) taken) handed n h = handed_named c place look b handed n h
  handed_is c place (Read look None taken) handed n h = h
  handed_is c place (Int look (Some b) width filled) handed n h = handed_named c place look b handed n h
  handed_is c place (Int look None width filled) handed n h = h
  handed_is c place (Irq v1 v2 now) handed n h = h
  handed_is c place (Dump now) handed n h = h
  handed_is c place Prepare handed n h = h
  handed_is c place Online handed n h = h

module _ (lists : Lists) where
  entered_is : (c : ℕ) (s : CpuState) (value : List ℕ) (e : CpuEntry) →
      cpu_entered e (option_map (handed_at lists) (base_refill_of e)) (cpu_at s value)
      ≡ cpu_at (cpu_step lists.base c s e) (cpu_value_step lists value e)
  entered_is c s value (Read look (Some b) taken) = refl
  entered_is c s value (Read look None taken) = refl
  entered_is c s value (Int look (Some b) width true) = refl
  entered_is c s value (Int look None width true) = refl
  entered_is c s value (Int look (Some b) width false) = refl
  entered_is c s value (Int look None width false) = refl
  entered_is c s value (Irq v1 v2 now) = refl
  entered_is c s value (Dump now) = refl
  entered_is c s value Prepare = refl
  entered_is c s value Online = refl

  used_is : (s : CpuState) (value : List ℕ) (e : CpuEntry) →
      key_used (option_map (handed_at lists) (base_refill_of e)) (cpu_at s value) ≡ cpu_value_in_use lists e value
  used_is s value (Read look (Some b) taken) = refl
  used_is s value (Read look None taken) = refl
  used_is s value (Int look (Some b) width filled) = refl
  used_is s value (Int look None width filled) = refl
  used_is s value (Irq v1 v2 now) = refl
  used_is s value (Dump now) = refl
  used_is s value Prepare = refl
  used_is s value Online = refl

-- ---- the loop of replay_cpu

abbrev pub CpuMay : Lists → ℕ → ℕ → CpuEntry → Type 0
CpuMay lists c k e = CpuMayCome lists.base c (cpu_after lists.base c (take k (cpu_list lists c))) e

abbrev pub CpuKeeps : Lists → ℕ → ℕ → KeptCpu → CpuEntry → Type 0
CpuKeeps lists c place k e = KeepsCpu (cpu_used_at lists c) k (cpu_visit lists c place e)

-- after the first `i` entries of CPU `c`, `cpu`, the fills `f` and the kept data `made` equal what the definitions give
pub record CpuAfter (lists : Lists) (c i : ℕ) (cpu : CpuValue) (f : LastFills) (made : List KeptCpu) : Type 0 where
  pub following : After (CpuMay lists c) (CpuKeeps lists c) (cpu_list lists c) i made
  pub cpu_conforms : cpu ≡ cpu_at (cpu_after lists.base c (take i (cpu_list lists c)))
      (cpu_value_after lists (take i (cpu_list lists c)))
  pub fills : FillsConform (cpu_used_at lists c) (cpu_after lists.base c (take i (cpu_list lists c))).fills f
  pub place : (cpu_after lists.base c (take i (cpu_list lists c))).place ≡ i

module _ (inferred : Tables) (base : List KeptBase) (keeps : KeepsBaseLane base (closed inferred)) (c i : ℕ) (t : InferredCpu)
    (is : slice_get (list_at inferred.cpus c) i ≡ Some t) (wide : CpuIsWide t.entry) (cpu : CpuValue) (f : LastFills)
    (made : List KeptCpu) (h : CpuAfter (closed inferred) c i cpu f made) (entry : CpuEntry)
    (entry_is : entry ≡ cpu_closed f t.entry) where
  abbrev s : CpuState
  s = cpu_after (closed inferred).base c (take i (cpu_list (closed inferred) c))

  abbrev value : List ℕ
  value = cpu_value_after (closed inferred) (take i (cpu_list (closed inferred) c))

  abbrev keys : ℕ → List ℕ
  keys = cpu_used_at (closed inferred) c

  pub entry_wide : EntryIsWide entry
  entry_wide = subst (λ e. EntryIsWide e) (sym entry_is) (closed_wide f t.entry wide)

  conform : FillsConform keys s.fills f
  conform = h.fills

  at : slice_get (cpu_list (closed inferred) c) i ≡ Some entry
  at =
      let there = at_too (cpu_list (closed inferred) c) (list_at inferred.cpus c) i t ((closed_fills inferred).cpu_count c) is in
      let filled = closes_cpu t.entry (cpu_visit (closed inferred) c i there.0)
      ((closed_fills inferred).cpu c i t there.0 is there.1) in
      there.1 ∙ ap Some (filled ∙ sym (closed_is keys s f t.entry wide conform) ∙ sym entry_is)

  generation : cpu.generation ≡ s.generation
  generation = ap (λ (x : CpuValue). x.generation) h.cpu_conforms

  pub cpu_stops_at_refill : (RefillConformsIn base c i (refill_named entry) → ⊥) → AllCpuMay (closed inferred) c → ⊥
  cpu_stops_at_refill unfit all =
      let may = all i entry at in
      unfit (refill_back (closed inferred) base keeps c i entry
      (subst (λ p. RefillConforms (closed inferred).base c p entry) h.place may.refill))

  pub cpu_stops : (FitsKept cpu.generation f entry → ⊥) → AllCpuMay (closed inferred) c → ⊥
  cpu_stops unfit all =
      let may = all i entry at in
      unfit (subst (λ g. FitsKept g f entry) (sym generation) ((fits_is keys s f entry entry_wide conform).1 may.fits))

  pub cpu_room : FitsKept cpu.generation f entry → RoomFor f entry
  cpu_room fits = room_for cpu.generation f entry entry_wide fits

  module _ (handed : Option CpuValue) (conforms : RefillConformsIn base c i (refill_named entry))
      (gives : HandedConforms base (refill_named entry) handed) (fits : FitsKept cpu.generation f entry) where
    handed_same : handed ≡ option_map (handed_at (closed inferred)) (base_refill_of entry)
    handed_same = handed_is (closed inferred) base keeps c i entry handed conforms gives

    stepped : cpu_entered entry handed cpu ≡
        cpu_at (cpu_step (closed inferred).base c s entry) (cpu_value_step (closed inferred) value entry)
    stepped =
        ap (λ o. cpu_entered entry o cpu) handed_same
        ∙ ap (cpu_entered entry (option_map (handed_at (closed inferred)) (base_refill_of entry))) h.cpu_conforms
        ∙ entered_is (closed inferred) c s value entry

    key_is : key_used handed cpu ≡ keys i
    key_is =
        ap (λ o. key_used o cpu) handed_same
        ∙ ap (key_used (option_map (handed_at (closed inferred)) (base_refill_of entry))) h.cpu_conforms
        ∙ used_is (closed inferred) s value entry
        ∙ sym (ap (cpu_value_at (closed inferred) value) at)

    state_more : cpu_after (closed inferred).base c (take (i + 1) (cpu_list (closed inferred) c)) ≡
        cpu_step (closed inferred).base c s entry
    state_more = fold_at (cpu_step (closed inferred).base c) cpu_start (cpu_list (closed inferred) c) i entry at

    value_more : cpu_value_after (closed inferred) (take (i + 1) (cpu_list (closed inferred) c)) ≡
        cpu_value_step (closed inferred) value entry
    value_more = fold_at (cpu_value_step (closed inferred)) zero_key (cpu_list (closed inferred) c) i entry at

    may : CpuMay (closed inferred) c i entry
    may = record {
      fits = (fits_is keys s f entry entry_wide conform).0 (subst (λ g. FitsKept g f entry) generation fits);
      refill = subst (λ p. RefillConforms (closed inferred).base c p entry) (sym h.place)
          (refill_there (closed inferred) base keeps c i entry conforms);
    }

    abbrev made_here : KeptCpu
    made_here = record {
      entry = entry;
      generation = (cpu_entered entry handed cpu).generation;
      source = source_entered entry (key_used handed cpu) f;
    }

    keeps_it : CpuKeeps (closed inferred) c i made_here entry
    keeps_it = record {
      entry = refl;
      generation = ap (λ (x : CpuValue). x.generation) stepped;
      source = ap (λ k. source_entered entry k f) key_is ∙ source_is keys s.fills f i entry entry_wide conform;
    }

    fills_next : FillsConform keys (cpu_step (closed inferred).base c s entry).fills
        (fills_entered entry (key_used handed cpu) f)
    fills_next =
        subst (λ k. FillsConform keys (fills_after s.place entry (cpu_key_in_use entry s.key) s.fills)
        (fills_entered entry k f)) (sym key_is)
        (subst (λ p. FillsConform keys (fills_after p entry (cpu_key_in_use entry s.key) s.fills)
        (fills_entered entry (keys i) f)) (sym h.place)
        (fills_more keys s.fills f i (cpu_key_in_use entry s.key) entry entry_wide conform))

    pub cpu_more : CpuAfter (closed inferred) c (i + 1) (cpu_entered entry handed cpu)
        (fills_entered entry (key_used handed cpu) f)
        (made ++ made_here ∷ [])
    cpu_more = record {
      following = after_more (CpuMay (closed inferred) c) (CpuKeeps (closed inferred) c) (cpu_list (closed inferred) c) i made
          made_here entry at h.following may keeps_it;
      cpu_conforms = stepped
          ∙ ap (λ (x : CpuState). cpu_at x (cpu_value_step (closed inferred) value entry)) (sym state_more)
          ∙ ap (cpu_at (cpu_after (closed inferred).base c (take (i + 1) (cpu_list (closed inferred) c)))) (sym value_more);
      fills = subst (λ (x : CpuState). FillsConform keys x.fills (fills_entered entry (key_used handed cpu) f))
          (sym state_more) fills_next;
      place = ap (λ (x : CpuState). x.place) state_more ∙ ap suc h.place ∙ (let n : suc i ≡ i + 1 = omega arith in n);
    }

-- if CpuAfter holds of `cpu`, `f` and `made`, it holds of `next`, `fills` and `items`, which are equal to them
pub cpu_next : (lists : Lists) (c i : ℕ) (cpu : CpuValue) (f : LastFills) (made : List KeptCpu) (next : CpuValue)
    (fills : LastFills) (items : List KeptCpu) → CpuAfter lists c i cpu f made → next ≡ cpu → fills ≡ f →
    items ≡ made → CpuAfter lists c i next fills items
cpu_next lists c i cpu f made next fills items h is_cpu is_fills is_items =
    subst (λ x. CpuAfter lists c i x fills items) (sym is_cpu)
    (subst (λ x. CpuAfter lists c i cpu x items) (sym is_fills)
    (subst (λ x. CpuAfter lists c i cpu f x) (sym is_items) h))

pub cpu_begin : (lists : Lists) (c : ℕ) → CpuAfter lists c 0 start no_fills []
cpu_begin lists c = record {
  following = after_none (CpuMay lists c) (CpuKeeps lists c) (cpu_list lists c);
  cpu_conforms = refl;
  fills = record { one = refl; two = refl; four = refl; eight = refl };
  place = refl;
}
