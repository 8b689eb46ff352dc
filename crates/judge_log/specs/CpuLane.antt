-- The state of a CPU while the code replays the CPU's list.
use Rattle.std.specs.Prelude.{ℕ, ◌+◌, ◌/◌, ◌≡◌, ◌≤◌, ◌<◌, ◌↔◌, ◌⊎◌, ⊤, Bool, true, false, not, ◌||◌, ◌==◌, nat_le}
use Rattle.std.specs.Prelude.{Option, Some, None, List, take, slice_get, IsSome, if◌then◌else◌}
use Rattle.key_names.specs.declared.entries.CpuEntry.{CpuEntry}
use Rattle.key_names.specs.declared.entries.CpuEntry.TheVariants.{Read, Int, Irq, Dump, Prepare, Online}
use Rattle.key_names.specs.Kernel.Keystream.{keystream}
use Rattle.key_names.specs.Lanes.BaseList.{base_erases, refill_of}
use Rattle.key_names.specs.Lanes.CpuList.{CpuMayCome, cpu_after}
use Rattle.key_names.specs.Lanes.Book.{Lists, cpu_list}
use Rattle.cpu_gen.specs.CpuValue.{CpuValue, erased, prepared}
use Rattle.judge_lines.specs.declared.inferred.CpuInferred.{CpuInferred}
use Rattle.judge_lines.specs.declared.inferred.CpuInferred.TheVariants.{Is as cpu_is, Batch as batch}
use Rattle.judge_log.specs.declared.kept.KeptBase.{KeptBase}
use Rattle.judge_log.specs.declared.last_fills.LastFill.{LastFill}
use Rattle.judge_log.specs.declared.last_fills.LastFills.{LastFills}
use Rattle.judge_log.specs.declared.kept.BytesSource.{BytesSource}
use Rattle.judge_log.specs.Kept.{no_source}
use Rattle.judge_log.specs.Places.{AllPlaces}

-- ---- the batches of a CPU

abbrev pub no_fills : LastFills
no_fills = record { one = None; two = None; four = None; eight = None }

-- the last fill of the batch with integers of `w` bytes
abbrev pub slot : LastFills → ℕ → Option LastFill
slot f w =
    if w == 1 then f.one else (if w == 2 then f.two else (if w == 4 then f.four else (if w == 8 then f.eight else None)))

abbrev pub put : ℕ → Option LastFill → LastFills → LastFills
put w fill f = record {
  one = if w == 1 then fill else f.one;
  two = if w == 2 then fill else f.two;
  four = if w == 4 then fill else f.four;
  eight = if w == 8 then fill else f.eight;
}

abbrev pub wants_kept : ℕ → ℕ → Option LastFill → Bool
wants_kept look width None = true
wants_kept look width (Some fill) = nat_le (96 / width) fill.count || not (look == fill.look)

abbrev pub one_more_kept : Option LastFill → Option LastFill
one_more_kept None = None
one_more_kept (Some fill) = Some (record fill { count = fill.count + 1 })

abbrev pub HasRoom : Option LastFill → Type 0
HasRoom None = ⊤
HasRoom (Some fill) = fill.count < 96

-- if an entry takes bytes of a batch that was filled earlier, this batch must have bytes left
abbrev pub RoomFor : LastFills → CpuEntry → Type 0
RoomFor f (Int look refill width true) = ⊤
RoomFor f (Int look refill width false) = HasRoom (slot f width)
RoomFor f (Read look refill taken) = ⊤
RoomFor f (Irq v1 v2 now) = ⊤
RoomFor f (Dump now) = ⊤
RoomFor f Prepare = ⊤
RoomFor f Online = ⊤

-- ---- completing an inferred entry, and checking an entry

abbrev pub cpu_closed : LastFills → CpuInferred → CpuEntry
cpu_closed f (cpu_is e) = e
cpu_closed f (batch look width) = Int look None width (wants_kept look width (slot f width))

abbrev pub FitsKept : ℕ → LastFills → CpuEntry → Type 0
FitsKept g f (Read look refill taken) = (1 ≤ look) × (g ≤ look) × ((refill ≡ None) ↔ (look ≡ g))
FitsKept g f (Int look refill width filled) =
    (1 ≤ look) × (g ≤ look) × (filled ≡ wants_kept look width (slot f width))
    × ((refill ≡ None) ↔ ((filled ≡ false) ⊎ (look ≡ g)))
FitsKept g f (Irq v1 v2 now) = ⊤
FitsKept g f (Dump now) = ⊤
FitsKept g f Prepare = ⊤
FitsKept g f Online = ⊤

-- ---- refills of the CPU by the base

-- if the entry names a refill: the generation that the entry's look found, and the refill's place
abbrev pub refill_named : CpuEntry → Option (ℕ × ℕ)
refill_named (Read look (Some refill) taken) = Some (look, refill)
refill_named (Read look None taken) = None
refill_named (Int look (Some refill) width filled) = Some (look, refill)
refill_named (Int look None width filled) = None
refill_named (Irq v1 v2 now) = None
refill_named (Dump now) = None
refill_named Prepare = None
refill_named Online = None

-- if a visit of the base erases the key in use, the data kept about this visit have that key
abbrev pub KeysKept : List KeptBase → Type 0
KeysKept base = (b : ℕ) (kept : KeptBase) → slice_get base b ≡ Some kept → base_erases kept.entry ≡ true → IsSome kept.key

-- the base's visit is a refill for `place` of this CPU, and the generation after this visit is at least `look`
abbrev pub NamesIn : ℕ → ℕ → ℕ → Option KeptBase → Type 0
NamesIn cpu place look None = ⊥
NamesIn cpu place look (Some kept) = (refill_of kept.entry ≡ Some (cpu, place)) × (look ≤ kept.generation)

abbrev pub RefillConformsIn : List KeptBase → ℕ → ℕ → Option (ℕ × ℕ) → Type 0
RefillConformsIn base cpu place None = ⊤
RefillConformsIn base cpu place (Some named) = NamesIn cpu place named.0 (slice_get base named.1)

-- `handed` is the key and the generation that the base handed over in the named refill
abbrev pub HandedConforms : List KeptBase → Option (ℕ × ℕ) → Option CpuValue → Type 0
HandedConforms base None handed = handed ≡ None
HandedConforms base (Some named) handed = (kept : KeptBase) (key : List ℕ) → slice_get base named.1 ≡ Some kept →
    kept.key ≡ Some key → handed ≡ Some (record { key = keystream key 32 32; generation = kept.generation })

-- ---- the CPU's state after an entry

abbrev pub used : Option CpuValue → CpuValue → CpuValue
used None c = c
used (Some handed) c = handed

abbrev pub key_used : Option CpuValue → CpuValue → List ℕ
key_used handed c = (used handed c).key

abbrev pub cpu_entered : CpuEntry → Option CpuValue → CpuValue → CpuValue
cpu_entered (Read look refill taken) handed c = erased (used handed c)
cpu_entered (Int look refill width true) handed c = erased (used handed c)
cpu_entered (Int look refill width false) handed c = used handed c
cpu_entered (Irq v1 v2 now) handed c = used handed c
cpu_entered (Dump now) handed c = used handed c
cpu_entered Prepare handed c = prepared (used handed c)
cpu_entered Online handed c = used handed c

abbrev pub fills_entered : CpuEntry → List ℕ → LastFills → LastFills
fills_entered (Int look refill width true) key f = put width (Some (record { look = look; key = key; count = 1 })) f
fills_entered (Int look refill width false) key f = put width (one_more_kept (slot f width)) f
fills_entered (Read look refill taken) key f = f
fills_entered (Irq v1 v2 now) key f = f
fills_entered (Dump now) key f = f
fills_entered Prepare key f = no_fills
fills_entered Online key f = f

abbrev pub source_kept : Option LastFill → BytesSource
source_kept None = no_source
source_kept (Some fill) = record { key = Some fill.key; served = fill.count }

abbrev pub source_entered : CpuEntry → List ℕ → LastFills → BytesSource
source_entered (Read look refill taken) key f = record { key = Some key; served = 0 }
source_entered (Int look refill width true) key f = record { key = Some key; served = 0 }
source_entered (Int look refill width false) key f = source_kept (slot f width)
source_entered (Irq v1 v2 now) key f = no_source
source_entered (Dump now) key f = no_source
source_entered Prepare key f = no_source
source_entered Online key f = no_source

-- ---- the whole list of a CPU

-- each entry of CPU `c` is allowed at its place
abbrev pub AllCpuMay : Lists → ℕ → Type 0
AllCpuMay lists c =
    AllPlaces (λ k e. CpuMayCome lists.base c (cpu_after lists.base c (take k (cpu_list lists c))) e) (cpu_list lists c)

abbrev pub AllCpusMay : Lists → Type 0
AllCpusMay lists = (c : ℕ) → AllCpuMay lists c
