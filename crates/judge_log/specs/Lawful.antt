-- Lists that match the inferred entries are lawful if their lanes and the dumps of the fast pools are lawful.
use Rattle.std.specs.Prelude.{ℕ, ◌≡◌, ⊤, Bool, Some, take, slice_get}
use Rattle.key_names.specs.declared.entries.CpuEntry.{CpuEntry}
use Rattle.key_names.specs.declared.entries.CpuEntry.TheVariants.{Read, Int, Irq, Dump, Prepare, Online}
use Rattle.key_names.specs.Kernel.FastPool.{FastPool, fast_after, makes_due}
use Rattle.key_names.specs.Lanes.Book.{Lists, LawfulLanes, list_at, cpu_list}
use Rattle.judge_log.specs.declared.inferred.InferredPool.TheVariants.{Dumped as dumped}
use Rattle.judge_log.specs.declared.inferred.InferredCpu.{InferredCpu}
use Rattle.judge_log.specs.Tables.{Tables}

-- an interrupt makes a dump of the fast pool `f` due exactly if the bool is true; the bool is whether the interrupt's
-- line has a dump
abbrev pub DueConforms : FastPool → Bool → CpuEntry → Type 0
DueConforms f dumps (Irq v1 v2 now) = makes_due f now ≡ dumps
DueConforms f dumps (Read look refill taken) = ⊤
DueConforms f dumps (Int look refill width filled) = ⊤
DueConforms f dumps (Dump now) = ⊤
DueConforms f dumps Prepare = ⊤
DueConforms f dumps Online = ⊤

-- the visit at `place` of CPU `cpu` is a dump
pub record DumpsAt (lists : Lists) (cpu place : ℕ) : Type 0 where
  pub now : ℕ
  pub is : slice_get (cpu_list lists cpu) place ≡ Some (Dump now)

pub record Lawful (inferred : Tables) (lists : Lists) : Type 0 where
  pub lanes : LawfulLanes lists
  -- an interrupt makes a dump due exactly if the next step of its line is a dump
  pub dues : (c k : ℕ) (t : InferredCpu) (e : CpuEntry) → slice_get (list_at inferred.cpus c) k ≡ Some t →
      slice_get (cpu_list lists c) k ≡ Some e → DueConforms (fast_after (take k (cpu_list lists c))) t.dumps e
  -- if an entry of the pool mixes the dump at `place` of CPU `cpu`, the CPU's entry at this place is a dump
  pub mixes : (p cpu place : ℕ) → slice_get inferred.pool p ≡ Some (dumped cpu place) → DumpsAt lists cpu place
