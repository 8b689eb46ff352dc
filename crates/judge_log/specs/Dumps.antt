-- The dumps of the fast pools, and the interrupts that make them due.
use Rattle.std.specs.Prelude.{ℕ, ◌≡◌, ⊤, Bool, Option, Some, None, List, take, slice_get}
use Rattle.key_names.specs.declared.entries.CpuEntry.{CpuEntry}
use Rattle.key_names.specs.declared.entries.CpuEntry.TheVariants.{Read, Int, Irq, Dump, Prepare, Online}
use Rattle.key_names.specs.Kernel.FastPool.{FastPool, fast_after, dump_bytes, dump_bits}
use Rattle.key_names.specs.Lanes.Book.{Lists, list_at, cpu_list}
use Rattle.judge_lines.specs.declared.inferred.CpuInferred.{CpuInferred}
use Rattle.judge_lines.specs.declared.inferred.CpuInferred.TheVariants.{Is as cpu_is, Batch as batch}
use Rattle.sample_credit.specs.declared.fast_pool.Dump.{Dump as Dumped}
use Rattle.judge_log.specs.declared.inferred.InferredCpu.{InferredCpu}
use Rattle.judge_log.specs.Closed.{closed}
use Rattle.judge_log.specs.Lawful.{DueConforms}
use Rattle.judge_log.specs.Places.{AllPlaces, AllKept}
use Rattle.judge_log.specs.Tables.{Tables}

abbrev pub DueInferred : FastPool → Bool → CpuInferred → Type 0
DueInferred f dumps (cpu_is e) = DueConforms f dumps e
DueInferred f dumps (batch look width) = ⊤

-- the bytes and bits that the entry dumps from the fast pool `f`, if the entry is a dump
abbrev pub dump_by : FastPool → CpuEntry → Option Dumped
dump_by f (Dump now) = Some (record { bytes = dump_bytes f; bits = dump_bits f })
dump_by f (Read look refill taken) = None
dump_by f (Int look refill width filled) = None
dump_by f (Irq v1 v2 now) = None
dump_by f Prepare = None
dump_by f Online = None

abbrev pub dump_inferred : FastPool → CpuInferred → Option Dumped
dump_inferred f (cpu_is e) = dump_by f e
dump_inferred f (batch look width) = None

-- the fast pool of CPU `c` before place `k` of the CPU's list
abbrev pub fast_at : Lists → ℕ → ℕ → FastPool
fast_at lists c k = fast_after (take k (cpu_list lists c))

-- if `e` is an interrupt at place `k` of CPU `c`, it makes a dump due exactly if its line has a dump
abbrev pub DueAt : Tables → ℕ → ℕ → CpuEntry → Type 0
DueAt inferred c k e = (t : InferredCpu) → slice_get (list_at inferred.cpus c) k ≡ Some t →
    DueConforms (fast_at (closed inferred) c k) t.dumps e

abbrev pub AllDue : Tables → Type 0
AllDue inferred = AllPlaces (λ c lane. AllPlaces (DueAt inferred c) lane) (closed inferred).cpus

-- if the visit `e` is a dump, `dump` has its bytes and bits; otherwise `dump` is none
abbrev pub DumpIs : Lists → ℕ → ℕ → Option Dumped → CpuEntry → Type 0
DumpIs lists c k dump e = dump ≡ dump_by (fast_at lists c k) e

abbrev pub AllDumps : Lists → List (List (Option Dumped)) → Type 0
AllDumps lists dumps = AllKept (λ c kept lane. AllKept (DumpIs lists c) kept lane) dumps lists.cpus
