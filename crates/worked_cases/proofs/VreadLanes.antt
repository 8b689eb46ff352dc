-- For each case of specs/Vreads, the entries of the pool, the base and the CPUs. From them the prover computes that the
-- case holds.
use Rattle.std.proofs.Common.{[], ◌∷◌, refl, Some, None, true}
use Rattle.std.specs.List.{range_with_len}
use Rattle.key_names.specs.declared.entries.Taken.TheVariants.{User, Kernel}
use Rattle.key_names.specs.declared.entries.PoolEntry.TheVariants.{Mix, Extract}
use Rattle.key_names.specs.declared.entries.BaseEntry.TheVariants.{Reseed, Refill, End}
use Rattle.key_names.specs.declared.entries.CpuEntry.TheVariants.{Read, Int, Irq}
use Rattle.worked_cases.specs.Runs.{Holds}
use Rattle.worked_cases.specs.Vreads.{vread_batch, vread_of_nothing, wipe_inside_with_nested_read, reseed_inside_vread}
use Rattle.worked_cases.specs.Vreads.{point_not_reached, two_vgetrandom_states, load_1_1_8}
use Rattle.worked_cases.proofs.Verdicts.{Lanes, no_hardware}
use Rattle.worked_cases.proofs.CaseVerdicts.{verdicts, holds}

abbrev vread_batch_lanes : Lanes
vread_batch_lanes = record {
  pool = Mix [] 256 ∷ Extract no_hardware 0 ∷ [];
  base = Reseed 1 0 ∷ Refill 0 0 ∷ End ∷ [];
  cpus = (Read 1 (Some 1) (User 32) ∷ []) ∷ [];
}

pub vread_batch_holds : Holds vread_batch
unfolding verdicts
vread_batch_holds = holds vread_batch vread_batch_lanes refl

abbrev vread_of_nothing_lanes : Lanes
vread_of_nothing_lanes = record {
  pool = Mix [] 256 ∷ Extract no_hardware 0 ∷ [];
  base = Reseed 1 0 ∷ End ∷ [];
  cpus = [] ∷ [];
}

pub vread_of_nothing_holds : Holds vread_of_nothing
unfolding verdicts
vread_of_nothing_holds = holds vread_of_nothing vread_of_nothing_lanes refl

abbrev wipe_inside_with_nested_read_lanes : Lanes
wipe_inside_with_nested_read_lanes = record {
  pool = Mix [] 256 ∷ Extract no_hardware 0 ∷ [];
  base = Reseed 1 0 ∷ Refill 0 0 ∷ End ∷ [];
  cpus = (Read 1 (Some 1) (User 32) ∷ Read 1 None (User 8) ∷ Read 1 None (User 32) ∷ []) ∷ [];
}

pub wipe_inside_with_nested_read_holds : Holds wipe_inside_with_nested_read
unfolding verdicts
wipe_inside_with_nested_read_holds = holds wipe_inside_with_nested_read wipe_inside_with_nested_read_lanes refl

abbrev reseed_inside_vread_lanes : Lanes
reseed_inside_vread_lanes = record {
  pool = Mix [] 256 ∷ Extract no_hardware 0 ∷ Extract no_hardware 2 ∷ [];
  base = Reseed 1 0 ∷ Refill 0 0 ∷ Reseed 2 0 ∷ Refill 0 1 ∷ End ∷ [];
  cpus = (Read 1 (Some 1) (User 32) ∷ Read 2 (Some 3) (User 32) ∷ []) ∷ [];
}

pub reseed_inside_vread_holds : Holds reseed_inside_vread
unfolding verdicts
reseed_inside_vread_holds = holds reseed_inside_vread reseed_inside_vread_lanes refl

abbrev point_not_reached_lanes : Lanes
point_not_reached_lanes = record {
  pool = Mix [] 256 ∷ Extract no_hardware 0 ∷ [];
  base = Reseed 1 0 ∷ Refill 0 0 ∷ End ∷ [];
  cpus = (Read 1 (Some 1) (User 32) ∷ []) ∷ [];
}

pub point_not_reached_holds : Holds point_not_reached
unfolding verdicts
point_not_reached_holds = holds point_not_reached point_not_reached_lanes refl

abbrev two_vgetrandom_states_lanes : Lanes
two_vgetrandom_states_lanes = record {
  pool = Mix [] 256 ∷ Extract no_hardware 0 ∷ [];
  base = Reseed 1 0 ∷ Refill 0 0 ∷ End ∷ [];
  cpus = (Read 1 (Some 1) (User 32) ∷ Read 1 None (User 32) ∷ []) ∷ [];
}

pub two_vgetrandom_states_holds : Holds two_vgetrandom_states
unfolding verdicts
two_vgetrandom_states_holds = holds two_vgetrandom_states two_vgetrandom_states_lanes refl

abbrev load_1_1_8_lanes : Lanes
load_1_1_8_lanes = record {
  pool = Mix (range_with_len 0 32) 256 ∷ Extract no_hardware 0 ∷ Mix (4 ∷ 0 ∷ 0 ∷ 0 ∷ 0 ∷ 0 ∷ 0 ∷ 0 ∷ []) 0 ∷
      Extract no_hardware 2 ∷ [];
  base = Reseed 1 0 ∷ Refill 0 0 ∷ Reseed 3 0 ∷ Refill 0 5 ∷ End ∷ [];
  cpus = (Read 1 (Some 1) (User 32) ∷ Read 1 None (Kernel 19) ∷ Int 1 None 8 true ∷ Irq 3 0 0 ∷
      Read 1 None (User 87) ∷ Read 2 (Some 3) (User 21) ∷ []) ∷ [];
}

pub load_1_1_8_holds : Holds load_1_1_8
unfolding verdicts
load_1_1_8_holds = holds load_1_1_8 load_1_1_8_lanes refl
