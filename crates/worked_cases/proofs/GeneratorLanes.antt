-- For each case of specs/Generators, the entries of the pool, the base and the CPUs. From them the prover computes that
-- the case holds.
use Rattle.std.proofs.Common.{[], ◌∷◌, ◌++◌, refl, Some, None, replicate, true, false}
use Rattle.key_names.specs.declared.entries.Taken.TheVariants.{User, Kernel}
use Rattle.key_names.specs.declared.entries.PoolEntry.TheVariants.{Mix, Extract}
use Rattle.key_names.specs.declared.entries.BaseEntry.TheVariants.{Reseed, Tick, Draw, Refill, End}
use Rattle.key_names.specs.declared.entries.CpuEntry.TheVariants.{Read, Int, Prepare}
use Rattle.worked_cases.specs.Runs.{Holds}
use Rattle.worked_cases.specs.Generators.{two_cpus, cpu_255, reseed_timer, late_interval}
use Rattle.worked_cases.specs.Generators.{int16_across_readiness_and_reseed, prepare_refills}
use Rattle.worked_cases.specs.Generators.{vmfork_before_and_after_readiness, int8_batch_of_96}
use Rattle.worked_cases.proofs.Verdicts.{Lanes, no_hardware}
use Rattle.worked_cases.proofs.CaseVerdicts.{verdicts, holds}

abbrev two_cpus_lanes : Lanes
two_cpus_lanes = record {
  pool = Mix [] 256 ∷ Extract no_hardware 0 ∷ Extract no_hardware 3 ∷ [];
  base = Reseed 1 0 ∷ Refill 0 0 ∷ Refill 1 0 ∷ Reseed 2 0 ∷ Refill 1 2 ∷ End ∷ [];
  cpus = (Read 1 (Some 1) (User 8) ∷ []) ∷ (Read 1 (Some 2) (User 8) ∷ Read 1 None (User 8) ∷ Read 2 (Some 4)
      (User 8) ∷ []) ∷ [];
}

pub two_cpus_holds : Holds two_cpus
unfolding verdicts
two_cpus_holds = holds two_cpus two_cpus_lanes refl

abbrev cpu_255_lanes : Lanes
cpu_255_lanes = record {
  pool = Mix [] 256 ∷ Extract no_hardware 0 ∷ [];
  base = Reseed 1 0 ∷ Refill 255 0 ∷ End ∷ [];
  cpus = replicate 255 [] ++ (Read 1 (Some 1) (User 8) ∷ []) ∷ [];
}

pub cpu_255_holds : Holds cpu_255
unfolding verdicts
cpu_255_holds = holds cpu_255 cpu_255_lanes refl

abbrev reseed_timer_lanes : Lanes
reseed_timer_lanes = record {
  pool = Mix [] 256 ∷ Extract no_hardware 0 ∷ Extract no_hardware 2 ∷ Extract no_hardware 3 ∷
      Extract no_hardware 5 ∷ [];
  base = Reseed 1 0 ∷ Tick 999 None ∷ Tick 1000 (Some 2) ∷ Reseed 3 1500 ∷ Tick 1999 None ∷ Tick 2000 (Some 4) ∷
      End ∷ [];
  cpus = [] ∷ [];
}

pub reseed_timer_holds : Holds reseed_timer
unfolding verdicts
reseed_timer_holds = holds reseed_timer reseed_timer_lanes refl

abbrev late_interval_lanes : Lanes
late_interval_lanes = record {
  pool = Mix [] 256 ∷ Extract no_hardware 0 ∷ Extract no_hardware 2 ∷ Extract no_hardware 3 ∷
      Extract no_hardware 5 ∷ [];
  base = Reseed 1 120000 ∷ Tick 179999 None ∷ Tick 180000 (Some 2) ∷ Reseed 3 5000 ∷ Tick 239999 None ∷
      Tick 240000 (Some 4) ∷ End ∷ [];
  cpus = [] ∷ [];
}

pub late_interval_holds : Holds late_interval
unfolding verdicts
late_interval_holds = holds late_interval late_interval_lanes refl

abbrev int16_across_readiness_and_reseed_lanes : Lanes
int16_across_readiness_and_reseed_lanes = record {
  pool = Extract no_hardware 0 ∷ Mix [] 256 ∷ Extract no_hardware 1 ∷ Extract no_hardware 3 ∷ [];
  base = Draw (Some 0) (Kernel 2) ∷ Reseed 2 0 ∷ Refill 0 0 ∷ Reseed 3 0 ∷ Refill 0 1 ∷ End ∷ [];
  cpus = (Int 1 (Some 2) 2 true ∷ Int 2 (Some 4) 2 true ∷ []) ∷ [];
}

pub int16_across_readiness_and_reseed_holds : Holds int16_across_readiness_and_reseed
unfolding verdicts
int16_across_readiness_and_reseed_holds = holds int16_across_readiness_and_reseed
    int16_across_readiness_and_reseed_lanes refl

abbrev prepare_refills_lanes : Lanes
prepare_refills_lanes = record {
  pool = Mix [] 256 ∷ Extract no_hardware 0 ∷ [];
  base = Reseed 1 0 ∷ Refill 0 0 ∷ Refill 0 2 ∷ End ∷ [];
  cpus = (Int 1 (Some 1) 4 true ∷ Prepare ∷ Int 1 (Some 2) 4 true ∷ []) ∷ [];
}

pub prepare_refills_holds : Holds prepare_refills
unfolding verdicts
prepare_refills_holds = holds prepare_refills prepare_refills_lanes refl

abbrev vmfork_before_and_after_readiness_lanes : Lanes
vmfork_before_and_after_readiness_lanes = record {
  pool = Mix (5 ∷ 0 ∷ 0 ∷ 0 ∷ 0 ∷ 0 ∷ 0 ∷ 0 ∷ 170 ∷ []) 0 ∷ Mix [] 256 ∷ Extract no_hardware 0 ∷
      Mix (5 ∷ 0 ∷ 0 ∷ 0 ∷ 0 ∷ 0 ∷ 0 ∷ 0 ∷ 170 ∷ []) 0 ∷ Extract no_hardware 1 ∷ [];
  base = Reseed 2 0 ∷ Reseed 4 0 ∷ End ∷ [];
  cpus = [] ∷ [];
}

pub vmfork_before_and_after_readiness_holds : Holds vmfork_before_and_after_readiness
unfolding verdicts
vmfork_before_and_after_readiness_holds = holds vmfork_before_and_after_readiness
    vmfork_before_and_after_readiness_lanes refl

abbrev int8_batch_of_96_lanes : Lanes
int8_batch_of_96_lanes = record {
  pool = Mix [] 256 ∷ Extract no_hardware 0 ∷ [];
  base = Reseed 1 0 ∷ Refill 0 0 ∷ End ∷ [];
  cpus = (Int 1 (Some 1) 1 true ∷ Int 1 None 1 false ∷ Int 1 None 1 false ∷ Int 1 None 1 false ∷ Int 1 None 1 false ∷
      Int 1 None 1 false ∷ Int 1 None 1 false ∷ Int 1 None 1 false ∷ Int 1 None 1 false ∷ Int 1 None 1 false ∷
      Int 1 None 1 false ∷ Int 1 None 1 false ∷ Int 1 None 1 false ∷ Int 1 None 1 false ∷ Int 1 None 1 false ∷
      Int 1 None 1 false ∷ Int 1 None 1 false ∷ Int 1 None 1 false ∷ Int 1 None 1 false ∷ Int 1 None 1 false ∷
      Int 1 None 1 false ∷ Int 1 None 1 false ∷ Int 1 None 1 false ∷ Int 1 None 1 false ∷ Int 1 None 1 false ∷
      Int 1 None 1 false ∷ Int 1 None 1 false ∷ Int 1 None 1 false ∷ Int 1 None 1 false ∷ Int 1 None 1 false ∷
      Int 1 None 1 false ∷ Int 1 None 1 false ∷ Int 1 None 1 false ∷ Int 1 None 1 false ∷ Int 1 None 1 false ∷
      Int 1 None 1 false ∷ Int 1 None 1 false ∷ Int 1 None 1 false ∷ Int 1 None 1 false ∷ Int 1 None 1 false ∷
      Int 1 None 1 false ∷ Int 1 None 1 false ∷ Int 1 None 1 false ∷ Int 1 None 1 false ∷ Int 1 None 1 false ∷
      Int 1 None 1 false ∷ Int 1 None 1 false ∷ Int 1 None 1 false ∷ Int 1 None 1 false ∷ Int 1 None 1 false ∷
      Int 1 None 1 false ∷ Int 1 None 1 false ∷ Int 1 None 1 false ∷ Int 1 None 1 false ∷ Int 1 None 1 false ∷
      Int 1 None 1 false ∷ Int 1 None 1 false ∷ Int 1 None 1 false ∷ Int 1 None 1 false ∷ Int 1 None 1 false ∷
      Int 1 None 1 false ∷ Int 1 None 1 false ∷ Int 1 None 1 false ∷ Int 1 None 1 false ∷ Int 1 None 1 false ∷
      Int 1 None 1 false ∷ Int 1 None 1 false ∷ Int 1 None 1 false ∷ Int 1 None 1 false ∷ Int 1 None 1 false ∷
      Int 1 None 1 false ∷ Int 1 None 1 false ∷ Int 1 None 1 false ∷ Int 1 None 1 false ∷ Int 1 None 1 false ∷
      Int 1 None 1 false ∷ Int 1 None 1 false ∷ Int 1 None 1 false ∷ Int 1 None 1 false ∷ Int 1 None 1 false ∷
      Int 1 None 1 false ∷ Int 1 None 1 false ∷ Int 1 None 1 false ∷ Int 1 None 1 false ∷ Int 1 None 1 false ∷
      Int 1 None 1 false ∷ Int 1 None 1 false ∷ Int 1 None 1 false ∷ Int 1 None 1 false ∷ Int 1 None 1 false ∷
      Int 1 None 1 false ∷ Int 1 None 1 false ∷ Int 1 None 1 false ∷ Int 1 None 1 false ∷ Int 1 None 1 false ∷
      Int 1 None 1 false ∷ Int 1 None 1 true ∷ []) ∷ [];
}

pub int8_batch_of_96_holds : Holds int8_batch_of_96
unfolding verdicts
int8_batch_of_96_holds = holds int8_batch_of_96 int8_batch_of_96_lanes refl
