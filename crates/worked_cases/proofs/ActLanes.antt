-- For each case of specs/VreadActs, the entries of the pool, the base and the CPUs. From them the prover computes that
-- the case holds.
use Rattle.std.proofs.Common.{[], ◌∷◌, refl, Some, None}
use Rattle.key_names.specs.declared.entries.Taken.TheVariants.{User}
use Rattle.key_names.specs.declared.entries.PoolEntry.TheVariants.{Mix, Extract}
use Rattle.key_names.specs.declared.entries.BaseEntry.TheVariants.{Reseed, Refill, Fork, End}
use Rattle.key_names.specs.declared.entries.CpuEntry.TheVariants.{Read}
use Rattle.worked_cases.specs.Runs.{Holds}
use Rattle.worked_cases.specs.VreadActs.{act_has_the_cpu_of_its_read, act_conforms_at_its_point, act_before_a_fork}
use Rattle.worked_cases.proofs.Verdicts.{Lanes, no_hardware}
use Rattle.worked_cases.proofs.CaseVerdicts.{verdicts, holds}

abbrev act_has_the_cpu_of_its_read_lanes : Lanes
act_has_the_cpu_of_its_read_lanes = record {
  pool = Mix [] 256 ∷ Extract no_hardware 0 ∷ [];
  base = Reseed 1 0 ∷ Refill 1 0 ∷ End ∷ [];
  cpus = [] ∷ (Read 1 (Some 1) (User 8) ∷ Read 1 None (User 32) ∷ []) ∷ [];
}

pub act_has_the_cpu_of_its_read_holds : Holds act_has_the_cpu_of_its_read
unfolding verdicts
act_has_the_cpu_of_its_read_holds = holds act_has_the_cpu_of_its_read act_has_the_cpu_of_its_read_lanes refl

abbrev act_conforms_at_its_point_lanes : Lanes
act_conforms_at_its_point_lanes = record {
  pool = Mix [] 256 ∷ Extract no_hardware 0 ∷ [];
  base = Reseed 1 0 ∷ Refill 0 0 ∷ End ∷ [];
  cpus = (Read 1 (Some 1) (User 32) ∷ Read 1 None (User 8) ∷ []) ∷ [];
}

pub act_conforms_at_its_point_holds : Holds act_conforms_at_its_point
unfolding verdicts
act_conforms_at_its_point_holds = holds act_conforms_at_its_point act_conforms_at_its_point_lanes refl

abbrev act_before_a_fork_lanes : Lanes
act_before_a_fork_lanes = record {
  pool = Mix [] 256 ∷ Extract no_hardware 0 ∷ Extract no_hardware 3 ∷ [];
  base = Reseed 1 0 ∷ Fork 1 ∷ End ∷ Reseed 2 0 ∷ Refill 0 0 ∷ End ∷ [];
  cpus = (Read 2 (Some 4) (User 32) ∷ Read 2 None (User 32) ∷ []) ∷ [];
}

pub act_before_a_fork_holds : Holds act_before_a_fork
unfolding verdicts
act_before_a_fork_holds = holds act_before_a_fork act_before_a_fork_lanes refl
