-- When the interrupt samples of a line are correct: the line makes no dump due and has no dump, or an interrupt makes a
-- dump due, and that dump and its mix into the pool follow.
use Rattle.std.specs.Prelude.{◌≡◌, ◌⊎◌, ℕ, ◌<◌, ⊤, false, List, ◌∷◌}
use Rattle.std.specs.List.{AllByRecursion}
use Rattle.key_names.specs.declared.entries.PoolEntry.{PoolEntry}
use Rattle.key_names.specs.declared.entries.PoolEntry.TheVariants.{Mix, Input, Bits, Extract}
use Rattle.key_names.specs.declared.entries.CpuEntry.{CpuEntry}
use Rattle.key_names.specs.declared.entries.CpuEntry.TheVariants.{Read, Int, Irq, Dump, Prepare, Online}
use Rattle.key_names.specs.Callers.Effects.{Effect, PoolVisit, CpuVisit, looked, at_pool, at_base, at_cpu, nothing_there}
use Rattle.key_names.specs.Kernel.FastPool.{FastPool, makes_due, dump_bytes, dump_bits}
use Rattle.key_names.specs.Lanes.Samples.{MakesDue, IsDump}

-- let f be the CPU's fast pool before the entry. The entry makes no dump due, and is not a dump
abbrev pub EntryIsQuiet : FastPool → CpuEntry → Type 0
EntryIsQuiet f (Irq v1 v2 now) = makes_due f now ≡ false
EntryIsQuiet f (Dump now) = ⊥
EntryIsQuiet f (Read look refill taken) = ⊤
EntryIsQuiet f (Int look refill width filled) = ⊤
EntryIsQuiet f Prepare = ⊤
EntryIsQuiet f Online = ⊤

-- `fast` gives each CPU's fast pool before each place of the CPU's list
module _ (fast : ℕ → ℕ → FastPool) where
  abbrev pub IsQuiet : Effect → Type 0
  IsQuiet (at_cpu v) = EntryIsQuiet (fast v.cpu v.place) v.entry
  IsQuiet (looked g) = ⊤
  IsQuiet (at_pool v) = ⊤
  IsQuiet (at_base v) = ⊤
  IsQuiet nothing_there = ⊤

  -- the effects begin with an interrupt that makes a dump due, the dump, and the dump's mix into the pool
  pub record Dumps (crossed : List Effect → Type 0) (effects : List Effect) : Type 0 where
    pub sample : CpuVisit
    pub dump : CpuVisit
    pub mix : PoolVisit
    pub rest : List Effect
    pub effects_are : effects ≡ at_cpu sample ∷ at_cpu dump ∷ at_pool mix ∷ rest
    pub due : MakesDue (fast sample.cpu sample.place) sample.entry
    pub on : dump.cpu ≡ sample.cpu
    pub after : sample.place < dump.place
    pub dumps : IsDump dump.entry
    pub mixes : mix.entry ≡ Mix (dump_bytes (fast dump.cpu dump.place)) (dump_bits (fast dump.cpu dump.place))
    pub crosses : crossed rest

abbrev pub IsMix : PoolEntry → Type 0
IsMix (Mix text bits) = ⊤
IsMix (Input word kind code value now) = ⊥
IsMix Bits = ⊥
IsMix (Extract hw base_place) = ⊥

-- the effect is neither a visit of a CPU nor a visit of the pool with a `Mix` entry
abbrev pub IsCrossing : Effect → Type 0
IsCrossing (at_pool v) = IsMix v.entry → ⊥
IsCrossing (at_cpu v) = ⊥
IsCrossing (looked g) = ⊤
IsCrossing (at_base v) = ⊤
IsCrossing nothing_there = ⊤

-- the samples of a line are correct, given the line's effects
abbrev pub SamplesConform : (ℕ → ℕ → FastPool) → List Effect → Type 0
SamplesConform fast effects =
    AllByRecursion (IsQuiet fast) effects ⊎ Dumps fast (λ rest. AllByRecursion IsCrossing rest) effects
