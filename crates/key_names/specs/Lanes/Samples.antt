-- When the samples of interrupts are correct: which dump an event has, and what the event mixes into the pool.
use Rattle.std.specs.Prelude.{ℕ, ◌≡◌, ◌<◌, IsTrue, ⊤, Some, List, take, slice_get}
use Rattle.key_names.specs.declared.names.Who.{Who}
use Rattle.key_names.specs.declared.entries.PoolEntry.{PoolEntry}
use Rattle.key_names.specs.declared.entries.PoolEntry.TheVariants.{Mix}
use Rattle.key_names.specs.declared.entries.CpuEntry.{CpuEntry}
use Rattle.key_names.specs.declared.entries.CpuEntry.TheVariants.{Read, Int, Irq, Dump, Prepare, Online}
use Rattle.key_names.specs.Kernel.FastPool.{FastPool, fast_after, makes_due, dump_bytes, dump_bits}
use Rattle.key_names.specs.Lanes.Book.{Visit, Book, entries_of, list_at}

abbrev pub SameEvent : Who → Who → Type 0
SameEvent a b = (a.caller ≡ b.caller) × (a.event ≡ b.event)

-- the fast pool of a CPU before the entry at place `k` of the CPU's list
abbrev pub fast_before : List (Visit CpuEntry) → ℕ → FastPool
fast_before visits k = fast_after (take k (entries_of visits))

-- the entry is an interrupt that makes a dump due
abbrev pub MakesDue : FastPool → CpuEntry → Type 0
MakesDue f (Irq v1 v2 now) = IsTrue (makes_due f now)
MakesDue f (Read look refill taken) = ⊥
MakesDue f (Int look refill width filled) = ⊥
MakesDue f (Dump now) = ⊥
MakesDue f Prepare = ⊥
MakesDue f Online = ⊥

abbrev pub IsDump : CpuEntry → Type 0
IsDump (Dump now) = ⊤
IsDump (Read look refill taken) = ⊥
IsDump (Int look refill width filled) = ⊥
IsDump (Irq v1 v2 now) = ⊥
IsDump Prepare = ⊥
IsDump Online = ⊥

-- the visit at place `i` belongs to the event of `who`, and makes a dump due
pub record DueAt (visits : List (Visit CpuEntry)) (i : ℕ) (who : Who) : Type 0 where
  pub visit : Visit CpuEntry
  pub is : slice_get visits i ≡ Some visit
  pub event : SameEvent visit.who who
  pub due : MakesDue (fast_before visits i) visit.entry

-- the visit at place `k` belongs to the event of `who`, and is a dump
pub record DumpAt (visits : List (Visit CpuEntry)) (k : ℕ) (who : Who) : Type 0 where
  pub visit : Visit CpuEntry
  pub is : slice_get visits k ≡ Some visit
  pub event : SameEvent visit.who who
  pub dumps : IsDump visit.entry

-- the pool's visit at place `p` belongs to the event of `who`, mixes `text` and credits `bits`
pub record MixAt (visits : List (Visit PoolEntry)) (p : ℕ) (who : Who) (text : List ℕ) (bits : ℕ) : Type 0 where
  pub visit : Visit PoolEntry
  pub is : slice_get visits p ≡ Some visit
  pub event : SameEvent visit.who who
  pub mixes : visit.entry ≡ Mix text bits

abbrev pub visits_of : Book → ℕ → List (Visit CpuEntry)
visits_of book c = list_at book.cpus c

-- an event's dump comes after the interrupt that made it due. An event with a dump mixes that dump into the pool, and
-- nothing else
pub record LawfulSamples (book : Book) : Type 0 where
  -- each dump comes after an interrupt that made a dump due in the same event
  pub dump_is_due : (c k : ℕ) (who : Who) → DumpAt (visits_of book c) k who →
      (i : ℕ) × (i < k) × DueAt (visits_of book c) i who
  -- after an interrupt that makes a dump due, the event dumps
  pub due_is_dumped : (c i : ℕ) (who : Who) → DueAt (visits_of book c) i who →
      (k : ℕ) × (i < k) × DumpAt (visits_of book c) k who
  -- an event dumps at most once
  pub one_dump : (c j k : ℕ) (who : Who) → DumpAt (visits_of book c) j who → DumpAt (visits_of book c) k who → j ≡ k
  -- the event of a dump mixes the dump's bytes into the pool, and credits the dump's bits
  pub dump_is_mixed : (c k : ℕ) (who : Who) → DumpAt (visits_of book c) k who →
      (p : ℕ) × MixAt book.pool p who (dump_bytes (fast_before (visits_of book c) k))
      (dump_bits (fast_before (visits_of book c) k))
  -- an event with a dump mixes nothing but that dump
  pub mix_is_dump : (c k p : ℕ) (who : Who) (text : List ℕ) (bits : ℕ) → DumpAt (visits_of book c) k who →
      MixAt book.pool p who text bits →
      (text ≡ dump_bytes (fast_before (visits_of book c) k)) × (bits ≡ dump_bits (fast_before (visits_of book c) k))
