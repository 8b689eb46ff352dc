-- For each case of specs/ManyCallers, the entries of the pool, the base and the CPUs. From them the prover computes
-- that the case holds.
use Rattle.std.proofs.Common.{[], ◌∷◌, refl, Some, None}
use Rattle.key_names.specs.declared.entries.Taken.TheVariants.{User}
use Rattle.key_names.specs.declared.entries.PoolEntry.TheVariants.{Mix, Extract}
use Rattle.key_names.specs.declared.entries.BaseEntry.TheVariants.{Reseed, Refill, Fork, End, Wait, Resume, Interrupt}
use Rattle.key_names.specs.declared.entries.BaseEntry.TheVariants.{Stall, Unstall}
use Rattle.key_names.specs.declared.entries.CpuEntry.TheVariants.{Read}
use Rattle.worked_cases.specs.Runs.{Holds}
use Rattle.worked_cases.specs.ManyCallers.{both_wait_one_lawful_example, waiter_resumes_one_lawful_example}
use Rattle.worked_cases.specs.ManyCallers.{fork_wipes_the_childs_state, handed_back_child}
use Rattle.worked_cases.proofs.Verdicts.{Lanes, no_hardware}
use Rattle.worked_cases.proofs.CaseVerdicts.{verdicts, holds}

abbrev both_wait_one_lawful_example_lanes : Lanes
both_wait_one_lawful_example_lanes = record {
  pool = [];
  base = Fork 1 ∷ Wait ∷ Wait ∷ Interrupt ∷ End ∷ Interrupt ∷ End ∷ [];
  cpus = [] ∷ [];
}

pub both_wait_one_lawful_example_holds : Holds both_wait_one_lawful_example
unfolding verdicts
both_wait_one_lawful_example_holds = holds both_wait_one_lawful_example both_wait_one_lawful_example_lanes refl

abbrev waiter_resumes_one_lawful_example_lanes : Lanes
waiter_resumes_one_lawful_example_lanes = record {
  pool = Mix [] 256 ∷ Extract no_hardware 2 ∷ [];
  base = Fork 1 ∷ Wait ∷ Reseed 1 0 ∷ Resume ∷ End ∷ Refill 0 0 ∷ End ∷ [];
  cpus = (Read 1 (Some 5) (User 4) ∷ []) ∷ [];
}

pub waiter_resumes_one_lawful_example_holds : Holds waiter_resumes_one_lawful_example
unfolding verdicts
waiter_resumes_one_lawful_example_holds = holds waiter_resumes_one_lawful_example
    waiter_resumes_one_lawful_example_lanes refl

abbrev fork_wipes_the_childs_state_lanes : Lanes
fork_wipes_the_childs_state_lanes = record {
  pool = Mix [] 256 ∷ Extract no_hardware 0 ∷ [];
  base = Reseed 1 0 ∷ Refill 0 0 ∷ Fork 1 ∷ End ∷ End ∷ [];
  cpus = (Read 1 (Some 1) (User 32) ∷ Read 1 None (User 32) ∷ []) ∷ [];
}

pub fork_wipes_the_childs_state_holds : Holds fork_wipes_the_childs_state
unfolding verdicts
fork_wipes_the_childs_state_holds = holds fork_wipes_the_childs_state fork_wipes_the_childs_state_lanes refl

abbrev handed_back_child_lanes : Lanes
handed_back_child_lanes = record {
  pool = Mix [] 256 ∷ Extract no_hardware 0 ∷ [];
  base = Reseed 1 0 ∷ Refill 0 0 ∷ Fork 1 ∷ Stall ∷ End ∷ Unstall ∷ End ∷ [];
  cpus = (Read 1 (Some 1) (User 32) ∷ Read 1 None (User 32) ∷ []) ∷ [];
}

pub handed_back_child_holds : Holds handed_back_child
unfolding verdicts
handed_back_child_holds = holds handed_back_child handed_back_child_lanes refl
