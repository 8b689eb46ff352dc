-- The tables of inferred entries, as lists, and the ranges of the numbers in them.
use Rattle.std.specs.Prelude.{ℕ, ◌≡◌, ◌<◌, ◌^◌, ◌⊎◌, ⊤, List, map, length, All}
use Rattle.key_names.specs.declared.notes.PoolNote.{PoolNote}
use Rattle.key_names.specs.declared.notes.PoolNote.TheVariants.{Mix as MixNote, Device, Input as InputNote}
use Rattle.key_names.specs.declared.notes.PoolNote.TheVariants.{Bits as BitsNote, Extract as ExtractNote}
use Rattle.key_names.specs.declared.entries.BaseEntry.{BaseEntry}
use Rattle.key_names.specs.declared.entries.BaseEntry.TheVariants.{Early, Reseed, Tick, Draw, Refill, Fork, End, Wait}
use Rattle.key_names.specs.declared.entries.BaseEntry.TheVariants.{Resume, Interrupt, Stall, Unstall}
use Rattle.key_names.specs.declared.entries.CpuEntry.{CpuEntry}
use Rattle.key_names.specs.declared.entries.CpuEntry.TheVariants.{Read, Int, Irq, Dump, Prepare, Online}
use Rattle.judge_lines.specs.declared.inferred.BaseInferred.{BaseInferred}
use Rattle.judge_lines.specs.declared.inferred.BaseInferred.TheVariants.{Is as base_is, Crossed as crossed, Woken as woken}
use Rattle.judge_lines.specs.declared.inferred.CpuInferred.{CpuInferred}
use Rattle.judge_lines.specs.declared.inferred.CpuInferred.TheVariants.{Is as cpu_is, Batch as batch}
use Rattle.judge_log.specs.declared.inferred.InferredPool.{InferredPool}
use Rattle.judge_log.specs.declared.inferred.InferredPool.TheVariants.{Is as pool_is, Dumped as dumped}
use Rattle.judge_log.specs.declared.inferred.InferredCpu.{InferredCpu}
use Rattle.judge_log.specs.declared.inferred.InferredEntries.{InferredEntries}

pub record Tables : Type 0 where
  pub pool : List InferredPool
  pub base : List BaseInferred
  pub cpus : List (List InferredCpu)

abbrev pub tables_of : InferredEntries → Tables
tables_of inferred = record {
  pool = inferred.pool.items;
  base = inferred.base.items;
  cpus = map (λ lane. lane.items) inferred.cpus.items;
}

-- ---- the ranges of the numbers in the tables

-- if the note is an input event, its moment is below 2^40 ms
abbrev pub NoteIsNear : PoolNote → Type 0
NoteIsNear (InputNote word kind code value now) = now < 2 ^ 40
NoteIsNear (MixNote text bits) = ⊤
NoteIsNear (Device word text) = ⊤
NoteIsNear BitsNote = ⊤
NoteIsNear (ExtractNote hw base_place) = ⊤

abbrev pub PoolIsNear : InferredPool → Type 0
PoolIsNear (pool_is note) = NoteIsNear note
PoolIsNear (dumped cpu place) = ⊤

-- if the entry is a reseed or a tick, its moment is below 2^40 ms
abbrev pub EntryIsNear : BaseEntry → Type 0
EntryIsNear (Reseed root now) = now < 2 ^ 40
EntryIsNear (Tick now root) = now < 2 ^ 40
EntryIsNear (Early root) = ⊤
EntryIsNear (Draw root taken) = ⊤
EntryIsNear (Refill cpu cpu_place) = ⊤
EntryIsNear (Fork child) = ⊤
EntryIsNear End = ⊤
EntryIsNear Wait = ⊤
EntryIsNear Resume = ⊤
EntryIsNear Interrupt = ⊤
EntryIsNear Stall = ⊤
EntryIsNear Unstall = ⊤

abbrev pub BaseIsNear : BaseInferred → Type 0
BaseIsNear (base_is e) = EntryIsNear e
BaseIsNear (crossed root now credit) = now < 2 ^ 40
BaseIsNear woken = ⊤

-- integers of this width are in range: they have 1, 2, 4 or 8 bytes
abbrev pub IsWidth : ℕ → Type 0
IsWidth width = (width ≡ 1) ⊎ ((width ≡ 2) ⊎ ((width ≡ 4) ⊎ (width ≡ 8)))

abbrev pub EntryIsWide : CpuEntry → Type 0
EntryIsWide (Int look refill width filled) = IsWidth width
EntryIsWide (Read look refill taken) = ⊤
EntryIsWide (Irq v1 v2 now) = ⊤
EntryIsWide (Dump now) = ⊤
EntryIsWide Prepare = ⊤
EntryIsWide Online = ⊤

abbrev pub CpuIsWide : CpuInferred → Type 0
CpuIsWide (cpu_is e) = EntryIsWide e
CpuIsWide (batch look width) = IsWidth width

-- the tables are in range: fewer than 2^32 CPUs, moments below 2^40 ms, and integers of 1, 2, 4 or 8 bytes
pub record InRange (inferred : Tables) : Type 0 where
  pub cpus_count : length inferred.cpus < 2 ^ 32
  pub notes : All PoolIsNear inferred.pool
  pub moments : All BaseIsNear inferred.base
  pub widths : All (λ lane. All (λ (t : InferredCpu). CpuIsWide t.entry) lane) inferred.cpus
