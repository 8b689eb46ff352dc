-- The interrupt samples and dumps among the steps of a call, computed from the lists of the lanes.
use Rattle.std.specs.Prelude.{◌≡◌, ℕ, ◌+◌, ◌≤◌, List, ◌∷◌, take}
use Rattle.key_names.specs.declared.entries.PoolEntry.TheVariants.{Mix}
use Rattle.key_names.specs.declared.entries.CpuEntry.TheVariants.{Dump}
use Rattle.key_names.specs.Callers.Effects.{Effect, PoolVisit, CpuVisit, at_pool, at_cpu}
use Rattle.key_names.specs.Kernel.FastPool.{FastPool, dump_bytes, dump_bits}
use Rattle.key_names.specs.Callers.LineSamples.{SamplesConform}
use Rattle.key_names.specs.Callers.Calls.{Setting}
use Rattle.key_names.specs.Callers.Forms.{Cross}
use Rattle.key_names.specs.Lanes.PoolList.{crossing}
use Rattle.lane_table.specs.declared.view.Visit.{Visit}
use Rattle.lane_table.specs.Meaning.{replay}

-- the fast pool of CPU `cpu` before the visit at `place` of the CPU's list
abbrev pub fast_in : (ℕ → List Visit) → ℕ → ℕ → FastPool
fast_in visits cpu place = (replay (take place (visits (cpu + 2)))).cpu.fast

-- F holds for the effects, and `SamplesConform` for the samples among them
pub record Sampled (F : List Effect → Type 0) (visits : ℕ → List Visit) (effects : List Effect) : Type 0 where
  pub holds : F effects
  pub samples : SamplesConform (fast_in visits) effects

-- the effects begin with two visits: a dump of the setting's CPU, at `place` or later, and the visit of the pool that
-- mixes the dump. The rest handles the threshold, if any, that the dump's credit crossed
pub record DumpConforms (set : Setting) (place : ℕ) (visits : ℕ → List Visit) (effects : List Effect) : Type 0 where
  pub dump : CpuVisit
  pub mix : PoolVisit
  pub rest : List Effect
  pub effects_are : effects ≡ at_cpu dump ∷ at_pool mix ∷ rest
  pub on : dump.cpu ≡ set.cpu
  pub following : place ≤ dump.place
  pub dumps : dump.entry ≡ Dump set.now
  pub mixes : mix.entry
      ≡ Mix (dump_bytes (fast_in visits dump.cpu dump.place)) (dump_bits (fast_in visits dump.cpu dump.place))
  pub crosses : Cross set (crossing mix.before.bits mix.after.bits) rest
