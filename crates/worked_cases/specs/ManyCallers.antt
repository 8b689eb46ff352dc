-- Worked cases of two callers.
use Rattle.std.specs.Prelude.{[], ◌∷◌, ◌++◌, codes}
use Rattle.key_names.specs.Transcripts.IsTranscript.{answers_clause, data_clause, marks_clause}
use Rattle.worked_cases.specs.Runs.{Case, left_out, instead, instead_both, one_cpu}

abbrev pub both_wait_one_lawful_example : Case
both_wait_one_lawful_example = record {
  script = one_cpu (
      codes "fork 1"
      ∷ codes "read 4 0"
      ∷ codes "caller 1"
      ∷ codes "read 4 0" ∷ []);
  lines =
      codes "0.0 fork ok b:0@1 -"
      ∷ codes "0.1 read EINTR ~0,b:1@2,b:3@4 -"
      ∷ codes "0.2 end ok b:4@5 -"
      ∷ codes "1.0 read EINTR ~0,b:2@3,b:5@6 -"
      ∷ codes "1.1 end ok b:6@7 -" ∷ [];
  near_misses =
      left_out 1
      ∷ instead 2 (codes "0.2 end ok b:5@5 -") marks_clause
      ∷ instead 1 (codes "0.1 read EAGAIN ~0,b:1@2,b:3@4 -") answers_clause
      ∷ instead_both 1 (codes "0.1 read EINTR ~0,b:1@2,b:5@6 -")
      3 (codes "1.0 read EINTR ~0,b:2@3,b:3@4 -") marks_clause ∷ [];
}

abbrev pub waiter_resumes_one_lawful_example : Case
waiter_resumes_one_lawful_example = record {
  script = one_cpu (
      codes "fork 1"
      ∷ codes "read 4 0"
      ∷ codes "caller 1"
      ∷ codes "credit 256" ∷ []);
  lines =
      codes "0.0 fork ok b:0@1 -"
      ∷ codes "0.1 read ok ~0,b:1@2,b:3@5,~1,b:5@7,c0:0@8 93271463"
      ∷ codes "0.2 end ok b:6@9 -"
      ∷ codes "1.0 credit ok p:0@2,p:1@3,b:2@4 -"
      ∷ codes "1.1 end ok b:4@6 -" ∷ [];
  near_misses =
      left_out 1
      ∷ instead 2 (codes "0.2 end ok b:7@9 -") marks_clause
      ∷ instead 1 (codes "0.1 read EINTR ~0,b:1@2,b:3@5,~1,b:5@7,c0:0@8 93271463") answers_clause
      ∷ instead 1 (codes "0.1 read ok ~0,b:1@2,b:3@5,~1,b:5@7,c0:0@8 93271462") data_clause ∷ [];
}

abbrev pub fork_wipes_the_childs_state : Case
fork_wipes_the_childs_state = record {
  script = one_cpu (
      codes "credit 256"
      ∷ codes "vread 40 0"
      ∷ codes "fork 1"
      ∷ codes "vread 40 0"
      ∷ codes "caller 1"
      ∷ codes "vread 40 0" ∷ []);
  lines =
      codes "0.0 credit ok p:0@1,p:1@2,b:0@3 -"
      ∷ (codes "0.1 vread ok ~1,~1,~1,~1,b:1@4,c0:0@5,~1 e075b16b0c4452a518eca3ab47632384e594d8d16878e30fb"
      ++ codes "dc2dd5f21bd4ce02c16be73d82f3107")
      ∷ codes "0.2 fork ok b:2@6 -"
      ∷ codes "0.3 vread ok ~1 88d46304e1bb3ad98e2f9e1c279b5a3f74567d0f498d570538395a332c27435cc73f7317729c1235"
      ∷ codes "0.4 end ok b:3@7 -"
      ∷ (codes "1.0 vread ok ~1,~1,~1,~1,c0:1@7,~1 223f1a93c3ab801c80b3bd773ec991fe8e669d8a1a244d0e108dd12"
      ++ codes "21c8b9c27088f786b2ea8fd14")
      ∷ codes "1.1 end ok b:4@8 -" ∷ [];
  near_misses =
      left_out 1
      ∷ instead 4 (codes "0.4 end ok b:4@7 -") marks_clause
      ∷ instead 1 (codes "0.1 vread EINTR ~1,~1,~1,~1,b:1@4,c0:0@5,~1 e075b16b0c4452a518eca3ab47632384e594d8d16878e3"
      ++ codes "0fbdc2dd5f21bd4ce02c16be73d82f3107") answers_clause
      ∷ instead 5 (codes "1.0 vread ok ~1,~1,~1,~1,c0:1@7,~1 223f1a93c3ab801c80b3bd773ec991fe8e669d8a1a244d0e108dd12"
      ++ codes "21c8b9c27088f786b2ea8fd15") data_clause ∷ [];
}

abbrev pub handed_back_child : Case
handed_back_child = record {
  script = one_cpu (
      codes "credit 256"
      ∷ codes "vread 40 0"
      ∷ codes "fork 1"
      ∷ codes "vread 40 0"
      ∷ codes "caller 1"
      ∷ codes "vread 40 0" ∷ []);
  lines =
      codes "0.0 credit ok p:0@1,p:1@2,b:0@3 -"
      ∷ (codes "0.1 vread ok ~1,~1,~1,~1,b:1@4,c0:0@5,~1 e075b16b0c4452a518eca3ab47632384e594d8d16878e30fb"
      ++ codes "dc2dd5f21bd4ce02c16be73d82f3107")
      ∷ codes "0.2 fork ok b:2@6,b:3@7,b:5@9 -"
      ∷ codes "0.3 vread ok ~1 88d46304e1bb3ad98e2f9e1c279b5a3f74567d0f498d570538395a332c27435cc73f7317729c1235"
      ∷ codes "0.4 end ok b:6@10 -"
      ∷ (codes "1.0 vread ok ~1,~1,~1,~1,c0:1@7,~1 223f1a93c3ab801c80b3bd773ec991fe8e669d8a1a244d0e108dd12"
      ++ codes "21c8b9c27088f786b2ea8fd14")
      ∷ codes "1.1 end ok b:4@8 -" ∷ [];
  near_misses =
      left_out 1
      ∷ instead 4 (codes "0.4 end ok b:7@10 -") marks_clause
      ∷ instead 1 (codes "0.1 vread EINTR ~1,~1,~1,~1,b:1@4,c0:0@5,~1 e075b16b0c4452a518eca3ab47632384e594d8d16878e3"
      ++ codes "0fbdc2dd5f21bd4ce02c16be73d82f3107") answers_clause
      ∷ instead 5 (codes "1.0 vread ok ~1,~1,~1,~1,c0:1@7,~1 223f1a93c3ab801c80b3bd773ec991fe8e669d8a1a244d0e108dd12"
      ++ codes "21c8b9c27088f786b2ea8fd15") data_clause ∷ [];
}
