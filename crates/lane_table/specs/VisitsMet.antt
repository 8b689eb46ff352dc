-- The effect of a visit in the book, compared with two facts: the lane's model (its value in the proofs) before the
-- visit, and the key that the visit received.
use Rattle.std.specs.Prelude.{◌≡◌, ℕ, ◌≤◌, ⊤, true, false, List, []}
use Rattle.key_names.specs.declared.names.LaneId.TheVariants.{Pool as PoolLane, Base as BaseLane, Cpu as CpuLane}
use Rattle.key_names.specs.declared.entries.PoolEntry.{PoolEntry}
use Rattle.key_names.specs.declared.entries.BaseEntry.{BaseEntry}
use Rattle.key_names.specs.declared.entries.CpuEntry.{CpuEntry}
use Rattle.key_names.specs.declared.entries.CpuEntry.TheVariants.{Read, Int, Irq, Dump, Prepare, Online}
use Rattle.key_names.specs.Lanes.PoolList.{PoolState, pool_step}
use Rattle.key_names.specs.Lanes.BaseList.{root_of}
use Rattle.key_names.specs.Kernel.Batches.{batched_int}
use Rattle.key_names.specs.Keys.KeyInUse.{taken_bytes}
use Rattle.key_names.specs.Callers.Effects.{effect_at, at_pool, at_base, at_cpu, pool_visit, base_visit, cpu_visit, base_serves}
use Rattle.key_names.specs.Lanes.Book.{Lists}
use Rattle.base_gen.specs.BaseValue.{BaseValue, base_at, key_in_use}
use Rattle.base_gen.specs.BaseValue as base
use Rattle.cpu_gen.specs.CpuValue as cpu
use Rattle.int_batch.specs.BatchValue.{next_bytes}
use Rattle.lane_table.specs.declared.view.Handed.{Handed}
use Rattle.lane_table.specs.Meaning.{CpuModel, generator_of, cpu_used, batch_at}
use Rattle.lane_table.specs.BookLaws.{bare}

-- the bytes that an entry of the base serves; `b` is the base's value, and `got` has the root that the entry received
abbrev pub base_serving : BaseValue → Handed → BaseEntry → List ℕ
base_serving b got e = base_serves (key_in_use (root_of e) got.key b.key) e

-- the bytes that an entry of a CPU serves; `m` is the CPU's model, and `got` the base's refill. If the batch need not
-- be filled first, an integer is the next one of its batch
abbrev pub cpu_serving : CpuModel → Handed → CpuEntry → List ℕ
cpu_serving m got (Read look refill taken) = taken_bytes (cpu_used (Read look refill taken) got m.cpu) taken
cpu_serving m got (Int look refill width true) = batched_int (cpu_used (Int look refill width true) got m.cpu) width 0
cpu_serving m got (Int look refill width false) = next_bytes width (batch_at width m)
cpu_serving m got (Irq v1 v2 now) = []
cpu_serving m got (Dump now) = []
cpu_serving m got Prepare = []
cpu_serving m got Online = []

-- a batch of 96 bytes has room for an integer of `width` bytes
pub record FitsBatch (width : ℕ) : Type 0 where
  pub some : 1 ≤ width
  pub within : width ≤ 96

abbrev pub IsIntOfBatch : CpuEntry → Type 0
IsIntOfBatch (Read look refill taken) = ⊤
IsIntOfBatch (Int look refill width filled) = FitsBatch width
IsIntOfBatch (Irq v1 v2 now) = ⊤
IsIntOfBatch (Dump now) = ⊤
IsIntOfBatch Prepare = ⊤
IsIntOfBatch Online = ⊤

-- the book's visit of the pool at `place` found the state `s`
pub record PoolMet (lists : Lists) (place : ℕ) (s : PoolState) (e : PoolEntry) : Type 0 where
  pub effect : effect_at lists PoolLane place ≡ at_pool (pool_visit lists place e)
  pub before : (pool_visit lists place e).before ≡ s
  pub after : (pool_visit lists place e).after ≡ pool_step s e

-- the book's visit of the base at `place` found the value `b`
pub record BaseMet (lists : Lists) (place : ℕ) (b : BaseValue) (got : Handed) (e : BaseEntry) : Type 0 where
  pub effect : effect_at lists BaseLane place ≡ at_base (base_visit lists place e)
  pub before : base_at (base_visit lists place e).before b.key ≡ b
  pub after : base_at (base_visit lists place e).after (base.after_entry e got.key b).key ≡ base.after_entry e got.key b
  pub serves : (base_visit lists place e).serves ≡ base_serving b got e

-- the book's visit of CPU `c` at `place` found the model `m`
pub record CpuMet (lists : Lists) (c place : ℕ) (m : CpuModel) (got : Handed) (e : CpuEntry) : Type 0 where
  pub effect : effect_at lists (CpuLane c) place ≡ at_cpu (cpu_visit lists c place e)
  pub before : (cpu_visit lists c place e).before.generation ≡ m.cpu.generation
  pub fills : (width : ℕ) → bare ((cpu_visit lists c place e).before.fills width) ≡ m.fills width
  pub after : (cpu_visit lists c place e).after.generation ≡ (cpu.after_entry e (generator_of got) m.cpu).generation
  pub serves : (cpu_visit lists c place e).serves ≡ cpu_serving m got e
