-- Transcripts with steps that are no form (allowed pattern) of their event, whatever entries the lanes have.
use Rattle.std.specs.Prelude.{[], ◌∷◌, codes, slice_set}
use Rattle.worked_cases.specs.ManyCallers.{fork_wipes_the_childs_state}
use Rattle.worked_cases.specs.Runs.{Case, one_cpu}

-- a read without its look (a read of the generation)
abbrev pub read_without_a_look : Case
read_without_a_look = record {
  script = one_cpu (codes "read 8 1" ∷ []);
  lines = codes "0.0 read EAGAIN - -" ∷ codes "0.1 end ok b:0@1 -" ∷ [];
  near_misses = [];
}

-- a fork that does not visit the base
abbrev pub fork_without_a_visit : Case
fork_without_a_visit = record {
  script = one_cpu (codes "fork 1" ∷ codes "caller 1" ∷ []);
  lines = codes "0.0 fork ok - -" ∷ codes "0.1 end ok b:0@1 -" ∷ codes "1.0 end ok b:1@2 -" ∷ [];
  near_misses = [];
}

-- a visit of a CPU that the script does not have
abbrev pub visit_of_no_cpu : Case
visit_of_no_cpu = record {
  script = one_cpu (codes "credit 256" ∷ codes "read 8 0" ∷ []);
  lines =
      codes "0.0 credit ok p:0@1,p:1@2,b:0@3 -"
      ∷ codes "0.1 read ok ~1,~1,b:1@4,c1:0@5 93271463054bc0f8"
      ∷ codes "0.2 end ok b:2@6 -" ∷ [];
  near_misses = [];
}

-- a vread in which a look finds a lower generation than the look before
abbrev pub looks_that_fall : Case
looks_that_fall = record {
  script = one_cpu (codes "credit 256" ∷ codes "vread 8 0" ∷ []);
  lines =
      codes "0.0 credit ok p:0@1,p:1@2,b:0@3 -"
      ∷ codes "0.1 vread ok ~2,~1,~1 e075b16b0c4452a5"
      ∷ codes "0.2 end ok b:1@4 -" ∷ [];
  near_misses = [];
}

-- a child that goes on with its parent's batch, so it gets the parent's next bytes without a key of its own
abbrev pub batch_of_the_parent : Case
batch_of_the_parent = record fork_wipes_the_childs_state {
  lines = slice_set fork_wipes_the_childs_state.lines 5
      (codes "1.0 vread ok ~1 88d46304e1bb3ad98e2f9e1c279b5a3f74567d0f498d570538395a332c27435cc73f7317729c1235");
  near_misses = [];
}
