-- Acts inside vgetrandom calls: an act's setting, and its place in the order.
use Rattle.std.specs.Prelude.{[], ◌∷◌, codes}
use Rattle.key_names.specs.Transcripts.IsTranscript.{answers_clause, data_clause, looks_clause, marks_clause}
use Rattle.worked_cases.specs.Runs.{Case, left_out, instead, instead_both, one_cpu, script_with}

abbrev pub act_has_the_cpu_of_its_read : Case
act_has_the_cpu_of_its_read = record {
  script = script_with (codes "1") (codes "2") (
      codes "credit 256"
      ∷ codes "inside 1 vread 8"
      ∷ codes "on 1"
      ∷ codes "vread 8 0" ∷ []);
  lines =
      codes "0.0 credit ok p:0@1,p:1@2,b:0@3 -"
      ∷ codes "0.1 inside ok ~1,~1,b:1@4,c1:0@5 93271463054bc0f8"
      ∷ codes "0.2 on ok - -"
      ∷ codes "0.3 vread ok ~1,~1,~1,~1,c1:1@6,~1 223f1a93c3ab801c"
      ∷ codes "0.4 end ok b:2@7 -" ∷ [];
  near_misses =
      left_out 1
      ∷ instead 4 (codes "0.4 end ok b:3@7 -") marks_clause
      ∷ instead 3 (codes "0.3 vread EINTR ~1,~1,~1,~1,c1:1@6,~1 223f1a93c3ab801c") answers_clause
      ∷ instead 3 (codes "0.3 vread ok ~1,~1,~1,~1,c1:1@6,~1 223f1a93c3ab801d") data_clause ∷ [];
}

abbrev pub act_conforms_at_its_point : Case
act_conforms_at_its_point = record {
  script = one_cpu (
      codes "credit 256"
      ∷ codes "inside 3 vread 8"
      ∷ codes "vread 8 0" ∷ []);
  lines =
      codes "0.0 credit ok p:0@1,p:1@2,b:0@3 -"
      ∷ codes "0.1 inside ok ~1,~1,c0:1@6 8c6732d0757d0137"
      ∷ codes "0.2 vread ok ~1,~1,~1,~1,b:1@4,c0:0@5,~1 e075b16b0c4452a5"
      ∷ codes "0.3 end ok b:2@7 -" ∷ [];
  near_misses =
      left_out 1
      ∷ instead 3 (codes "0.3 end ok b:3@7 -") marks_clause
      ∷ instead 2 (codes "0.2 vread EINTR ~1,~1,~1,~1,b:1@4,c0:0@5,~1 e075b16b0c4452a5") answers_clause
      ∷ instead 2 (codes "0.2 vread ok ~1,~1,~1,~1,b:1@4,c0:0@5,~1 e075b16b0c4452a4") data_clause
      ∷ instead_both 1 (codes "0.1 inside ok ~1,~1,b:1@4,c0:0@5 8c6732d0757d0137")
      2 (codes "0.2 vread ok ~1,~1,~1,~1,c0:1@6,~1 e075b16b0c4452a5") marks_clause ∷ [];
}

abbrev pub act_before_a_fork : Case
act_before_a_fork = record {
  script = one_cpu (
      codes "credit 256"
      ∷ codes "inside 1 reseed"
      ∷ codes "fork 1"
      ∷ codes "vread 8 0"
      ∷ codes "caller 1"
      ∷ codes "read 0 1" ∷ []);
  lines =
      codes "0.0 credit ok p:0@1,p:1@2,b:0@3 -"
      ∷ codes "0.1 inside ok ~1,p:2@6,b:3@7 -"
      ∷ codes "0.2 fork ok b:1@4 -"
      ∷ codes "0.3 vread ok ~1,~1,~2,~2,b:4@8,c0:0@9,~2,~2,~2,~2,c0:1@10,~2 162e568aee35a6aa"
      ∷ codes "0.4 end ok b:5@11 -"
      ∷ codes "1.0 read ok ~1 -"
      ∷ codes "1.1 end ok b:2@5 -" ∷ [];
  near_misses =
      left_out 1
      ∷ instead 4 (codes "0.4 end ok b:6@11 -") marks_clause
      ∷ instead 3 (codes "0.3 vread EINTR ~1,~1,~2,~2,b:4@8,c0:0@9,~2,~2,~2,~2,c0:1@10,~2 162e568aee35a6aa")
      answers_clause
      ∷ instead 3 (codes "0.3 vread ok ~1,~1,~2,~2,b:4@8,c0:0@9,~2,~2,~2,~2,c0:1@10,~2 162e568aee35a6ab") data_clause
      ∷ instead 5 (codes "1.0 read ok ~0 -") answers_clause
      ∷ instead 5 (codes "1.0 read ok ~3 -") looks_clause
      ∷ instead 2 (codes "0.2 fork ok ~0,b:1@6 -") marks_clause ∷ [];
}
