-- For each case of specs/SampleEvents, the entries of the pool, the base and the CPUs. From them the prover computes
-- that the case holds.
use Rattle.std.proofs.Common.{[], ◌∷◌, refl, Some}
use Rattle.key_names.specs.declared.entries.Taken.TheVariants.{User}
use Rattle.key_names.specs.declared.entries.PoolEntry.TheVariants.{Mix, Input, Bits, Extract}
use Rattle.key_names.specs.declared.entries.BaseEntry.TheVariants.{Draw, End}
use Rattle.key_names.specs.declared.entries.CpuEntry.TheVariants.{Irq, Dump}
use Rattle.worked_cases.specs.Runs.{Holds}
use Rattle.worked_cases.specs.SampleEvents.{irq_at_1000_no_dump, irq_at_1001_dumps, input_timer, input_bytes_mixed}
use Rattle.worked_cases.proofs.Verdicts.{Lanes, no_hardware}
use Rattle.worked_cases.proofs.CaseVerdicts.{verdicts, holds}

abbrev irq_at_1000_no_dump_lanes : Lanes
irq_at_1000_no_dump_lanes = record {
  pool = Bits ∷ [];
  base = End ∷ [];
  cpus = (Irq 1 2 1000 ∷ []) ∷ [];
}

pub irq_at_1000_no_dump_holds : Holds irq_at_1000_no_dump
unfolding verdicts
irq_at_1000_no_dump_holds = holds irq_at_1000_no_dump irq_at_1000_no_dump_lanes refl

abbrev irq_at_1001_dumps_lanes : Lanes
irq_at_1001_dumps_lanes = record {
  pool = Mix (153 ∷ 138 ∷ 29 ∷ 180 ∷ 98 ∷ 182 ∷ 111 ∷ 200 ∷ 248 ∷ 174 ∷ 85 ∷ 27 ∷ 24 ∷ 89 ∷ 14 ∷ 199 ∷ []) 1 ∷
      Bits ∷ [];
  base = End ∷ [];
  cpus = (Irq 1 2 1001 ∷ Dump 1001 ∷ []) ∷ [];
}

pub irq_at_1001_dumps_holds : Holds irq_at_1001_dumps
unfolding verdicts
irq_at_1001_dumps_holds = holds irq_at_1001_dumps irq_at_1001_dumps_lanes refl

abbrev input_timer_lanes : Lanes
input_timer_lanes = record {
  pool = Input 0 1 30 1 1000 ∷ Bits ∷ Input 0 1 30 2 3000 ∷ Bits ∷ Input 0 1 30 3 8000 ∷ Bits ∷
      Input 0 1 30 3 8000 ∷ Bits ∷ [];
  base = End ∷ [];
  cpus = [] ∷ [];
}

pub input_timer_holds : Holds input_timer
unfolding verdicts
input_timer_holds = holds input_timer input_timer_lanes refl

abbrev input_bytes_mixed_lanes : Lanes
input_bytes_mixed_lanes = record {
  pool = Input 0 1 30 1 1000 ∷ Extract no_hardware 0 ∷ [];
  base = Draw (Some 1) (User 8) ∷ End ∷ [];
  cpus = [] ∷ [];
}

pub input_bytes_mixed_holds : Holds input_bytes_mixed
unfolding verdicts
input_bytes_mixed_holds = holds input_bytes_mixed input_bytes_mixed_lanes refl
