-- The data that a replay keeps about the entries of the lanes' lists.
use Rattle.std.specs.Prelude.{ℕ, ◌≡◌, Option, Some, None, List, map, true, false, if◌then◌else◌}
use Rattle.key_names.specs.declared.entries.PoolEntry.{PoolEntry}
use Rattle.key_names.specs.declared.entries.PoolEntry.TheVariants.{Mix, Input, Bits, Extract}
use Rattle.key_names.specs.declared.entries.CpuEntry.{CpuEntry}
use Rattle.key_names.specs.declared.entries.CpuEntry.TheVariants.{Read, Int, Irq, Dump, Prepare, Online}
use Rattle.key_names.specs.Lanes.PoolList.{PoolState, crossing, root_of_extraction}
use Rattle.key_names.specs.Lanes.BaseList.{base_erases}
use Rattle.key_names.specs.Kernel.Batches.{Fill}
use Rattle.key_names.specs.Keys.KeyInUse.{base_used_at, cpu_used_at}
use Rattle.key_names.specs.Lanes.Book.{Lists}
use Rattle.key_names.specs.Callers.Effects.{PoolVisit, BaseVisit, CpuVisit, pool_visit, base_visit, cpu_visit}
use Rattle.input_pool.specs.PoolConforms.{crossing_of}
use Rattle.judge_log.specs.declared.kept.KeptRoot.{KeptRoot}
use Rattle.judge_log.specs.declared.kept.KeptPool.{KeptPool}
use Rattle.judge_log.specs.declared.kept.KeptBase.{KeptBase}
use Rattle.judge_log.specs.declared.kept.KeptCpu.{KeptCpu}
use Rattle.judge_log.specs.declared.kept.Lists.{Lists as KeptLists}
use Rattle.judge_log.specs.declared.kept.BytesSource.{BytesSource}
use Rattle.judge_log.specs.Places.{AllKept}

-- the root that the entry extracts from the pool in state `s`, if the entry is an extraction
abbrev pub root_kept : PoolState → PoolEntry → Option KeptRoot
root_kept s (Extract hw base_place) = Some (record { value = root_of_extraction s hw; base_place = base_place })
root_kept s (Mix text bits) = None
root_kept s (Input word kind code value now) = None
root_kept s Bits = None

pub record KeepsPool (k : KeptPool) (v : PoolVisit) : Type 0 where
  pub before : k.before ≡ v.before.bits
  pub crosses : crossing_of k.crossing ≡ crossing v.before.bits v.after.bits
  pub root : k.root ≡ root_kept v.before v.entry

-- the kept data `k` are right for the visit `v` of the base; `used` is the value of the base's key in use at this visit
pub record KeepsBase (used : List ℕ) (k : KeptBase) (v : BaseVisit) : Type 0 where
  pub entry : k.entry ≡ v.entry
  pub generation : k.generation ≡ v.after.generation
  pub key : k.key ≡ (if base_erases v.entry then Some used else None)

abbrev pub no_source : BytesSource
no_source = record { key = None; served = 0 }

abbrev pub source_in : (ℕ → List ℕ) → Option Fill → BytesSource
source_in used None = no_source
source_in used (Some fill) = record { key = Some (used fill.place); served = fill.count }

-- what the bytes of a CPU's entry are made from; `used` is the CPU's key in use at each place
abbrev pub source_of : (ℕ → List ℕ) → (ℕ → Option Fill) → ℕ → CpuEntry → BytesSource
source_of used fills place (Read look refill taken) = record { key = Some (used place); served = 0 }
source_of used fills place (Int look refill width true) = record { key = Some (used place); served = 0 }
source_of used fills place (Int look refill width false) = source_in used (fills width)
source_of used fills place (Irq v1 v2 now) = no_source
source_of used fills place (Dump now) = no_source
source_of used fills place Prepare = no_source
source_of used fills place Online = no_source

-- the kept data `k` are right for the visit `v` of a CPU; `used` is the value of the CPU's key in use at each place
pub record KeepsCpu (used : ℕ → List ℕ) (k : KeptCpu) (v : CpuVisit) : Type 0 where
  pub entry : k.entry ≡ v.entry
  pub generation : k.generation ≡ v.after.generation
  pub source : k.source ≡ source_of used v.before.fills v.place v.entry

abbrev pub KeepsPoolLane : List KeptPool → Lists → Type 0
KeepsPoolLane kept lists = AllKept (λ p k e. KeepsPool k (pool_visit lists p e)) kept lists.pool

abbrev pub KeepsBaseLane : List KeptBase → Lists → Type 0
KeepsBaseLane kept lists =
    AllKept (λ i k e. KeepsBase (base_used_at lists.pool lists.base i) k (base_visit lists i e)) kept lists.base

abbrev pub KeepsCpuLane : Lists → ℕ → List KeptCpu → List CpuEntry → Type 0
KeepsCpuLane lists c kept es = AllKept (λ place k e. KeepsCpu (cpu_used_at lists c) k (cpu_visit lists c place e)) kept es

-- the kept data are right for each visit of each lane in `lists`
pub record Keeps (kept : KeptLists) (lists : Lists) : Type 0 where
  pub pool : KeepsPoolLane kept.pool.items lists
  pub base : KeepsBaseLane kept.base.items lists
  pub cpus : AllKept (KeepsCpuLane lists) (map (λ lane. lane.items) kept.cpus.items) lists.cpus
