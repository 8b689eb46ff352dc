-- The lists that are made by completing the inferred entries, lane by lane: first the dumps of the fast pools, then the
-- pool, the base and the CPUs.
use Rattle.std.specs.Prelude.{ℕ, suc, None, List, [], ◌∷◌, map, take, nat_le, if◌then◌else◌, slice_get}
use Rattle.std.specs.List.{fold}
use Rattle.key_names.specs.declared.entries.PoolEntry.{PoolEntry}
use Rattle.key_names.specs.declared.entries.BaseEntry.{BaseEntry}
use Rattle.key_names.specs.declared.entries.BaseEntry.TheVariants.{Resume, Interrupt}
use Rattle.key_names.specs.declared.entries.CpuEntry.{CpuEntry}
use Rattle.key_names.specs.declared.entries.CpuEntry.TheVariants.{Int}
use Rattle.key_names.specs.Lanes.PoolList.{Crossing, none, pool_after}
use Rattle.key_names.specs.Lanes.BaseList.{BaseState, base_start, base_step}
use Rattle.key_names.specs.Kernel.Batches.{must_fill}
use Rattle.key_names.specs.Lanes.CpuList.{CpuState, cpu_start, cpu_step}
use Rattle.key_names.specs.Kernel.FastPool.{FastPool, fast_start, fast_step}
use Rattle.key_names.specs.Lanes.Book.{Lists, list_at}
use Rattle.judge_lines.specs.declared.inferred.BaseInferred.{BaseInferred}
use Rattle.judge_lines.specs.declared.inferred.BaseInferred.TheVariants.{Is as base_is, Crossed as crossed, Woken as woken}
use Rattle.judge_lines.specs.declared.inferred.CpuInferred.{CpuInferred}
use Rattle.judge_lines.specs.declared.inferred.CpuInferred.TheVariants.{Is as cpu_is, Batch as batch}
use Rattle.judge_lines.specs.LaneFacts.{LaneFacts, crossed_by}
use Rattle.judge_lines.specs.Inferred.{crossed_entry}
use Rattle.judge_log.specs.declared.inferred.InferredCpu.{InferredCpu}
use Rattle.judge_log.specs.Fills.{pool_entry}
use Rattle.judge_log.specs.Tables.{Tables}

-- `close` completes each inferred entry in the state after the entries before it; `step` gives the state after an entry
abbrev pub filled : {S T E : Type 0} → (S → T → E) → (S → E → S) → S → List T → List E
filled close step s [] = []
filled close step s (t ∷ ts) = close s t ∷ filled close step (step s (close s t)) ts

-- the fast pool after an inferred entry; an integer does not change the fast pool
abbrev pub fast_inferred : FastPool → CpuInferred → FastPool
fast_inferred f (cpu_is e) = fast_step f e
fast_inferred f (batch look width) = f

abbrev pub facts_inferred : Tables → LaneFacts
facts_inferred inferred = record {
  crossed_at = λ p. none;
  fast = λ cpu k. fold (λ f (t : InferredCpu). fast_inferred f t.entry) fast_start (take k (list_at inferred.cpus cpu));
}

abbrev pub closed_pool : Tables → List PoolEntry
closed_pool inferred = map (pool_entry (facts_inferred inferred)) inferred.pool

abbrev pub crossed_in : List PoolEntry → ℕ → Crossing
crossed_in pool p = crossed_by (pool_after (take p pool)) (slice_get pool p)

abbrev pub base_entry : (ℕ → Crossing) → BaseState → BaseInferred → BaseEntry
base_entry crossed_at s (base_is e) = e
base_entry crossed_at s (crossed root now credit) = crossed_entry (crossed_at credit) root now
base_entry crossed_at s woken = if nat_le 1 s.generation then Resume else Interrupt

abbrev pub closed_base : Tables → List BaseEntry
closed_base inferred = filled (base_entry (crossed_in (closed_pool inferred))) base_step base_start inferred.base

abbrev pub cpu_inferred_entry : CpuState → CpuInferred → CpuEntry
cpu_inferred_entry s (cpu_is e) = e
cpu_inferred_entry s (batch look width) = Int look None width (must_fill look width (s.fills width))

abbrev pub closed_cpu : List BaseEntry → ℕ → List InferredCpu → List CpuEntry
closed_cpu base c lane = filled (λ s (t : InferredCpu). cpu_inferred_entry s t.entry) (cpu_step base c) cpu_start lane

abbrev pub closed_cpus : List BaseEntry → ℕ → List (List InferredCpu) → List (List CpuEntry)
closed_cpus base c [] = []
closed_cpus base c (lane ∷ lanes) = closed_cpu base c lane ∷ closed_cpus base (suc c) lanes

unfoldable pub closed : Tables → Lists
closed inferred = record {
  pool = closed_pool inferred;
  base = closed_base inferred;
  cpus = closed_cpus (closed_base inferred) 0 inferred.cpus;
  callers = [];
}
