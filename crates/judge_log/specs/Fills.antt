-- Lists that match the inferred entries.
use Rattle.std.specs.Prelude.{ℕ, ◌≡◌, Some, length, slice_get}
use Rattle.key_names.specs.declared.entries.PoolEntry.{PoolEntry}
use Rattle.key_names.specs.declared.entries.PoolEntry.TheVariants.{Mix}
use Rattle.key_names.specs.declared.entries.BaseEntry.{BaseEntry}
use Rattle.key_names.specs.declared.entries.CpuEntry.{CpuEntry}
use Rattle.key_names.specs.Kernel.FastPool.{dump_bytes, dump_bits}
use Rattle.key_names.specs.Lanes.PoolNotes.{entry_of}
use Rattle.key_names.specs.Lanes.Book.{Lists, list_at, cpu_list}
use Rattle.key_names.specs.Callers.Effects.{base_visit, cpu_visit}
use Rattle.judge_lines.specs.declared.inferred.BaseInferred.{BaseInferred}
use Rattle.judge_lines.specs.LaneFacts.{LaneFacts, facts_of}
use Rattle.judge_lines.specs.Inferred.{FillsBase, FillsCpu}
use Rattle.judge_log.specs.declared.inferred.InferredPool.{InferredPool}
use Rattle.judge_log.specs.declared.inferred.InferredPool.TheVariants.{Is as pool_is, Dumped as dumped}
use Rattle.judge_log.specs.declared.inferred.InferredCpu.{InferredCpu}
use Rattle.judge_log.specs.Tables.{Tables}

-- the pool's entry that completes an inferred entry; if it mixes a dump, its bytes and bits are those of the CPU's fast
-- pool
abbrev pub pool_entry : LaneFacts → InferredPool → PoolEntry
pool_entry c (pool_is note) = entry_of note
pool_entry c (dumped cpu place) = Mix (dump_bytes (c.fast cpu place)) (dump_bits (c.fast cpu place))

-- each lane has as many visits as inferred entries, and each visit has its inferred entry
pub record Fills (inferred : Tables) (lists : Lists) : Type 0 where
  pub pool_count : length lists.pool ≡ length inferred.pool
  pub base_count : length lists.base ≡ length inferred.base
  pub cpus_count : length lists.cpus ≡ length inferred.cpus
  pub cpu_count : (c : ℕ) → length (cpu_list lists c) ≡ length (list_at inferred.cpus c)
  pub pool : (p : ℕ) (t : InferredPool) (e : PoolEntry) → slice_get inferred.pool p ≡ Some t →
      slice_get lists.pool p ≡ Some e → e ≡ pool_entry (facts_of lists) t
  pub base : (i : ℕ) (t : BaseInferred) (e : BaseEntry) → slice_get inferred.base i ≡ Some t →
      slice_get lists.base i ≡ Some e → FillsBase (facts_of lists) t (base_visit lists i e)
  pub cpu : (c k : ℕ) (t : InferredCpu) (e : CpuEntry) → slice_get (list_at inferred.cpus c) k ≡ Some t →
      slice_get (cpu_list lists c) k ≡ Some e → FillsCpu t.entry (cpu_visit lists c k e)
