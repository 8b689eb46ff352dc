-- What a CPU's list means: the CPU's generation, key and batches after the list's entries, and which entry may follow.
use Rattle.std.specs.Prelude.{ℕ, suc, ◌≡◌, ◌≤◌, ◌↔◌, ◌⊎◌, Bool, true, false, ⊤, Option, Some, None, List, slice_get}
use Rattle.std.specs.Prelude.{option_and_then, if◌then◌else◌}
use Rattle.std.specs.List.{fold}
use Rattle.key_names.specs.declared.names.LaneId.TheVariants.{Base as BaseLane}
use Rattle.key_names.specs.declared.names.KeyName.{KeyName}
use Rattle.key_names.specs.declared.names.KeyName.TheVariants.{Cpu, Call}
use Rattle.key_names.specs.declared.entries.Taken.{Taken}
use Rattle.key_names.specs.declared.entries.BaseEntry.{BaseEntry}
use Rattle.key_names.specs.declared.entries.CpuEntry.{CpuEntry}
use Rattle.key_names.specs.declared.entries.CpuEntry.TheVariants.{Read, Int, Irq, Dump, Prepare, Online}
use Rattle.key_names.specs.Lanes.BaseList.{refill_at, generation_at}
use Rattle.key_names.specs.Kernel.Batches.{Fill, fills_after, must_fill}
use Rattle.key_names.specs.Lanes.LawfulList.{LawfulFrom}

pub record CpuState : Type 0 where
  -- the number of entries so far
  pub place : ℕ
  pub generation : ℕ
  -- the name of the key
  pub key : Option KeyName
  -- the last fill of each width
  pub fills : ℕ → Option Fill

abbrev pub cpu_start : CpuState
cpu_start = record { place = 0; generation = 0; key = None; fills = λ w. None }

-- the refill that an entry names
abbrev pub base_refill_of : CpuEntry → Option ℕ
base_refill_of (Read look refill taken) = refill
base_refill_of (Int look refill width filled) = refill
base_refill_of (Irq v1 v2 now) = None
base_refill_of (Dump now) = None
base_refill_of Prepare = None
base_refill_of Online = None

-- whether an entry erases the key in use, and so makes bytes 0 to 32 of that key's keystream the next key
abbrev pub cpu_erases : CpuEntry → Bool
cpu_erases (Read look refill taken) = true
cpu_erases (Int look refill width filled) = filled
cpu_erases (Irq v1 v2 now) = false
cpu_erases (Dump now) = false
cpu_erases Prepare = false
cpu_erases Online = false

abbrev pub call_or : Option ℕ → Option KeyName → Option KeyName
call_or None key = key
call_or (Some b) key = Some (Call BaseLane b)

-- the key in use at an entry: the key that the base handed over in the named refill, or, if no refill is named, the key
-- before the entry
abbrev pub cpu_key_in_use : CpuEntry → Option KeyName → Option KeyName
cpu_key_in_use e key = call_or (base_refill_of e) key

-- the key after the entry at place k of CPU c
abbrev pub cpu_key_after : ℕ → ℕ → CpuEntry → Option KeyName → Option KeyName
cpu_key_after c k e key = if cpu_erases e then Some (Cpu c k) else cpu_key_in_use e key

-- the CPU's generation after a read or an integer: the base's generation at the named refill, or `g` if no refill is
-- named
abbrev pub generation_or : List BaseEntry → Option ℕ → ℕ → ℕ
generation_or base None g = g
generation_or base (Some b) g = generation_at base b

abbrev pub cpu_generation_after : List BaseEntry → CpuEntry → ℕ → ℕ
cpu_generation_after base (Read look refill taken) g = generation_or base refill g
cpu_generation_after base (Int look refill width filled) g = generation_or base refill g
cpu_generation_after base (Irq v1 v2 now) g = g
cpu_generation_after base (Dump now) g = g
cpu_generation_after base Prepare g = 0
cpu_generation_after base Online g = g

abbrev pub cpu_step : List BaseEntry → ℕ → CpuState → CpuEntry → CpuState
cpu_step base c s e = record {
  place = suc s.place;
  generation = cpu_generation_after base e s.generation;
  key = cpu_key_after c s.place e s.key;
  fills = fills_after s.place e (cpu_key_in_use e s.key) s.fills;
}

abbrev pub cpu_after : List BaseEntry → ℕ → List CpuEntry → CpuState
cpu_after base c = fold (cpu_step base c) cpu_start

-- the look found the core ready, and a generation that is at least the CPU's
pub record LookFitsCpu (s : CpuState) (look : ℕ) : Type 0 where
  pub known : 1 ≤ look
  pub not_back : s.generation ≤ look

-- a read names no refill if and only if its look found the CPU's generation
abbrev pub ReadNames : CpuState → ℕ → Option ℕ → Type 0
ReadNames s look refill = (refill ≡ None) ↔ (look ≡ s.generation)

-- an integer names no refill if and only if it fills no batch, or its look found the CPU's generation
abbrev pub IntNames : CpuState → ℕ → Option ℕ → Bool → Type 0
IntNames s look refill filled = (refill ≡ None) ↔ ((filled ≡ false) ⊎ (look ≡ s.generation))

-- an integer fills its batch if and only if `must_fill` holds
abbrev pub FillConforms : CpuState → ℕ → ℕ → Bool → Type 0
FillConforms s look width filled = filled ≡ must_fill look width (s.fills width)

pub record ReadFits (s : CpuState) (look : ℕ) (refill : Option ℕ) : Type 0 where
  pub looks : LookFitsCpu s look
  pub names : ReadNames s look refill

pub record IntFits (s : CpuState) (look : ℕ) (refill : Option ℕ) (width : ℕ) (filled : Bool) : Type 0 where
  pub looks : LookFitsCpu s look
  pub fills : FillConforms s look width filled
  pub names : IntNames s look refill filled

-- the entry fits the generation and the batches in the CPU's state
abbrev pub CpuFits : CpuState → CpuEntry → Type 0
CpuFits s (Read look refill taken) = ReadFits s look refill
CpuFits s (Int look refill width filled) = IntFits s look refill width filled
CpuFits s (Irq v1 v2 now) = ⊤
CpuFits s (Dump now) = ⊤
CpuFits s Prepare = ⊤
CpuFits s Online = ⊤

-- if an entry names refill `b`, the base's entry `b` is a refill for this CPU and this place. The base's generation
-- before that refill is at least the generation that the look found
abbrev pub RefillNames : List BaseEntry → ℕ → ℕ → ℕ → Option ℕ → Type 0
RefillNames base c place look None = ⊤
RefillNames base c place look (Some b) = (refill_at base b ≡ Some (c, place)) × (look ≤ generation_at base b)

abbrev pub RefillConforms : List BaseEntry → ℕ → ℕ → CpuEntry → Type 0
RefillConforms base c place (Read look refill taken) = RefillNames base c place look refill
RefillConforms base c place (Int look refill width filled) = RefillNames base c place look refill
RefillConforms base c place (Irq v1 v2 now) = ⊤
RefillConforms base c place (Dump now) = ⊤
RefillConforms base c place Prepare = ⊤
RefillConforms base c place Online = ⊤

pub record CpuMayCome (base : List BaseEntry) (c : ℕ) (s : CpuState) (e : CpuEntry) : Type 0 where
  pub fits : CpuFits s e
  pub refill : RefillConforms base c s.place e

abbrev pub LawfulCpu : List BaseEntry → ℕ → List CpuEntry → Type 0
LawfulCpu base c es = LawfulFrom (CpuMayCome base c) (cpu_step base c) cpu_start es

-- the refill that the entry at a place names
abbrev pub base_refill_at : List CpuEntry → ℕ → Option ℕ
base_refill_at es k = option_and_then base_refill_of (slice_get es k)

-- how many bytes a read takes, and whether for a user or the kernel
abbrev pub taken_of : CpuEntry → Option Taken
taken_of (Read look refill taken) = Some taken
taken_of (Int look refill width filled) = None
taken_of (Irq v1 v2 now) = None
taken_of (Dump now) = None
taken_of Prepare = None
taken_of Online = None

abbrev pub taken_at : List CpuEntry → ℕ → Option Taken
taken_at es k = option_and_then taken_of (slice_get es k)
