-- For each case of specs/Readiness, the entries of the pool, the base and the CPUs. From them the prover computes that
-- the case holds.
use Rattle.std.proofs.Common.{[], ◌∷◌, refl, Some, None}
use Rattle.std.specs.List.{range_with_len}
use Rattle.key_names.specs.declared.entries.Taken.TheVariants.{User, Kernel}
use Rattle.key_names.specs.declared.entries.PoolEntry.TheVariants.{Mix, Bits, Extract}
use Rattle.key_names.specs.declared.entries.BaseEntry.TheVariants.{Early, Reseed, Draw, Refill, End, Wait, Interrupt}
use Rattle.key_names.specs.declared.entries.CpuEntry.TheVariants.{Read}
use Rattle.worked_cases.specs.Runs.{Holds}
use Rattle.worked_cases.specs.Readiness.{first_run, before_readiness, first_use_after_credit}
use Rattle.worked_cases.specs.Readiness.{empty_base_extracts_each_time, read_of_33_before_readiness, early_then_ready}
use Rattle.worked_cases.specs.Readiness.{early_step_skipped, early_base_no_second_extraction, random_file_not_ready}
use Rattle.worked_cases.specs.Readiness.{kernel_and_file_reads}
use Rattle.worked_cases.proofs.Verdicts.{Lanes, no_hardware}
use Rattle.worked_cases.proofs.CaseVerdicts.{verdicts, holds}

abbrev first_run_lanes : Lanes
first_run_lanes = record {
  pool = Mix (97 ∷ 98 ∷ 99 ∷ []) 0 ∷ Extract no_hardware 0 ∷ [];
  base = Draw (Some 1) (User 16) ∷ End ∷ [];
  cpus = [] ∷ [];
}

pub first_run_holds : Holds first_run
unfolding verdicts
first_run_holds = holds first_run first_run_lanes refl

abbrev before_readiness_lanes : Lanes
before_readiness_lanes = record {
  pool = Bits ∷ Mix [] 100 ∷ Bits ∷ [];
  base = Wait ∷ Interrupt ∷ End ∷ [];
  cpus = [] ∷ [];
}

pub before_readiness_holds : Holds before_readiness
unfolding verdicts
before_readiness_holds = holds before_readiness before_readiness_lanes refl

abbrev first_use_after_credit_lanes : Lanes
first_use_after_credit_lanes = record {
  pool = Mix (range_with_len 0 32) 256 ∷ Extract no_hardware 0 ∷ [];
  base = Reseed 1 0 ∷ Refill 0 0 ∷ End ∷ [];
  cpus = (Read 1 (Some 1) (User 16) ∷ []) ∷ [];
}

pub first_use_after_credit_holds : Holds first_use_after_credit
unfolding verdicts
first_use_after_credit_holds = holds first_use_after_credit first_use_after_credit_lanes refl

abbrev empty_base_extracts_each_time_lanes : Lanes
empty_base_extracts_each_time_lanes = record {
  pool = Extract no_hardware 0 ∷ Extract no_hardware 1 ∷ [];
  base = Draw (Some 0) (User 4) ∷ Draw (Some 1) (User 4) ∷ End ∷ [];
  cpus = [] ∷ [];
}

pub empty_base_extracts_each_time_holds : Holds empty_base_extracts_each_time
unfolding verdicts
empty_base_extracts_each_time_holds = holds empty_base_extracts_each_time empty_base_extracts_each_time_lanes refl

abbrev read_of_33_before_readiness_lanes : Lanes
read_of_33_before_readiness_lanes = record {
  pool = Mix [] 0 ∷ Extract no_hardware 0 ∷ [];
  base = Draw (Some 1) (User 33) ∷ End ∷ [];
  cpus = [] ∷ [];
}

pub read_of_33_before_readiness_holds : Holds read_of_33_before_readiness
unfolding verdicts
read_of_33_before_readiness_holds = holds read_of_33_before_readiness read_of_33_before_readiness_lanes refl

abbrev early_then_ready_lanes : Lanes
early_then_ready_lanes = record {
  pool = Mix [] 127 ∷ Mix [] 1 ∷ Extract no_hardware 0 ∷ Mix [] 127 ∷ Mix [] 1 ∷ Extract no_hardware 1 ∷ Bits ∷ [];
  base = Early (Some 2) ∷ Reseed 5 0 ∷ End ∷ [];
  cpus = [] ∷ [];
}

pub early_then_ready_holds : Holds early_then_ready
unfolding verdicts
early_then_ready_holds = holds early_then_ready early_then_ready_lanes refl

abbrev early_step_skipped_lanes : Lanes
early_step_skipped_lanes = record {
  pool = Mix [] 100 ∷ Mix [] 300 ∷ Extract no_hardware 0 ∷ Bits ∷ [];
  base = Reseed 2 0 ∷ End ∷ [];
  cpus = [] ∷ [];
}

pub early_step_skipped_holds : Holds early_step_skipped
unfolding verdicts
early_step_skipped_holds = holds early_step_skipped early_step_skipped_lanes refl

abbrev early_base_no_second_extraction_lanes : Lanes
early_base_no_second_extraction_lanes = record {
  pool = Mix [] 127 ∷ Mix [] 1 ∷ Extract no_hardware 0 ∷ Bits ∷ [];
  base = Early (Some 2) ∷ Draw None (User 4) ∷ End ∷ [];
  cpus = [] ∷ [];
}

pub early_base_no_second_extraction_holds : Holds early_base_no_second_extraction
unfolding verdicts
early_base_no_second_extraction_holds = holds early_base_no_second_extraction early_base_no_second_extraction_lanes refl

abbrev random_file_not_ready_lanes : Lanes
random_file_not_ready_lanes = record {
  pool = [];
  base = Wait ∷ Interrupt ∷ End ∷ [];
  cpus = [] ∷ [];
}

pub random_file_not_ready_holds : Holds random_file_not_ready
unfolding verdicts
random_file_not_ready_holds = holds random_file_not_ready random_file_not_ready_lanes refl

abbrev kernel_and_file_reads_lanes : Lanes
kernel_and_file_reads_lanes = record {
  pool = Mix [] 256 ∷ Extract no_hardware 0 ∷ [];
  base = Reseed 1 0 ∷ Refill 0 0 ∷ End ∷ [];
  cpus = (Read 1 (Some 1) (Kernel 33) ∷ Read 1 None (User 5) ∷ []) ∷ [];
}

pub kernel_and_file_reads_holds : Holds kernel_and_file_reads
unfolding verdicts
kernel_and_file_reads_holds = holds kernel_and_file_reads kernel_and_file_reads_lanes refl
