-- Reads before the core is ready, and how the core becomes ready.
use Rattle.std.specs.Prelude.{[], ◌∷◌, ◌++◌, codes}
use Rattle.key_names.specs.Transcripts.IsTranscript.{answers_clause, data_clause, looks_clause, marks_clause}
use Rattle.worked_cases.specs.Runs.{Case, left_out, instead, instead_both, one_cpu}

abbrev pub first_run : Case
first_run = record {
  script = one_cpu (
      codes "write 616263"
      ∷ codes "read 16 4" ∷ []);
  lines =
      codes "0.0 write ok p:0@1 -"
      ∷ codes "0.1 read ok ~0,p:1@2,b:0@3 2e6bb5ff0fe262f66131c5e063550e5e"
      ∷ codes "0.2 end ok b:1@4 -" ∷ [];
  near_misses =
      left_out 1
      ∷ instead 2 (codes "0.2 end ok b:2@4 -") marks_clause
      ∷ instead 1 (codes "0.1 read EINTR ~0,p:1@2,b:0@3 2e6bb5ff0fe262f66131c5e063550e5e") answers_clause
      ∷ instead 1 (codes "0.1 read ok ~0,p:1@2,b:0@3 2e6bb5ff0fe262f66131c5e063550e5f") data_clause ∷ [];
}

abbrev pub before_readiness : Case
before_readiness = record {
  script = one_cpu (
      codes "read 8 1"
      ∷ codes "read 8 6"
      ∷ codes "read 8 8"
      ∷ codes "read 0 0"
      ∷ codes "reseed"
      ∷ codes "bits"
      ∷ codes "credit 100"
      ∷ codes "bits" ∷ []);
  lines =
      codes "0.0 read EAGAIN ~0 -"
      ∷ codes "0.1 read EINVAL - -"
      ∷ codes "0.2 read EINVAL - -"
      ∷ codes "0.3 read EINTR ~0,b:0@1,b:1@2 -"
      ∷ codes "0.4 reseed ENODATA ~0 -"
      ∷ codes "0.5 bits ok p:0@3 0"
      ∷ codes "0.6 credit ok p:1@4 -"
      ∷ codes "0.7 bits ok p:2@5 100"
      ∷ codes "0.8 end ok b:2@6 -" ∷ [];
  near_misses =
      left_out 1
      ∷ instead 8 (codes "0.8 end ok b:3@6 -") marks_clause
      ∷ instead 0 (codes "0.0 read ok ~0 -") answers_clause
      ∷ instead 7 (codes "0.7 bits ok p:2@5 101") data_clause ∷ [];
}

abbrev pub first_use_after_credit : Case
first_use_after_credit = record {
  script = one_cpu (
      codes "add 000102030405060708090a0b0c0d0e0f101112131415161718191a1b1c1d1e1f 256"
      ∷ codes "read 16 0"
      ∷ codes "read 0 1" ∷ []);
  lines =
      codes "0.0 add ok p:0@1,p:1@2,b:0@3 -"
      ∷ codes "0.1 read ok ~1,~1,b:1@4,c0:0@5 30c3d435ceeea938aa716df267e36936"
      ∷ codes "0.2 read ok ~1 -"
      ∷ codes "0.3 end ok b:2@6 -" ∷ [];
  near_misses =
      left_out 1
      ∷ instead 3 (codes "0.3 end ok b:3@6 -") marks_clause
      ∷ instead 1 (codes "0.1 read EINTR ~1,~1,b:1@4,c0:0@5 30c3d435ceeea938aa716df267e36936") answers_clause
      ∷ instead 1 (codes "0.1 read ok ~1,~1,b:1@4,c0:0@5 30c3d435ceeea938aa716df267e36937") data_clause
      ∷ instead_both 0 (codes "0.0 add ok p:0@1,p:1@3,b:0@2 -")
      1 (codes "0.1 read ok ~1,~1,b:1@4,c0:0@5 30c3d435ceeea938aa716df267e36936") marks_clause
      ∷ instead 2 (codes "0.2 read ok ~2 -") looks_clause
      ∷ instead 2 (codes "0.2 read ok ~0 -") answers_clause ∷ [];
}

abbrev pub empty_base_extracts_each_time : Case
empty_base_extracts_each_time = record {
  script = one_cpu (
      codes "read 4 4"
      ∷ codes "read 4 4" ∷ []);
  lines =
      codes "0.0 read ok ~0,p:0@1,b:0@2 11b92523"
      ∷ codes "0.1 read ok ~0,p:1@3,b:1@4 badae52a"
      ∷ codes "0.2 end ok b:2@5 -" ∷ [];
  near_misses =
      left_out 1
      ∷ instead 2 (codes "0.2 end ok b:3@5 -") marks_clause
      ∷ instead 0 (codes "0.0 read EINTR ~0,p:0@1,b:0@2 11b92523") answers_clause
      ∷ instead 1 (codes "0.1 read ok ~0,p:1@3,b:1@4 badae52b") data_clause ∷ [];
}

abbrev pub read_of_33_before_readiness : Case
read_of_33_before_readiness = record {
  script = one_cpu (
      codes "write -"
      ∷ codes "read 0 4"
      ∷ codes "read 33 4" ∷ []);
  lines =
      codes "0.0 write ok p:0@1 -"
      ∷ codes "0.1 read ok ~0 -"
      ∷ codes "0.2 read ok ~0,p:1@2,b:0@3 7ab6c07d92303142164272a17a686f2153159cc899057930e0cc0663fd417ebcda"
      ∷ codes "0.3 end ok b:1@4 -" ∷ [];
  near_misses =
      left_out 1
      ∷ instead 3 (codes "0.3 end ok b:2@4 -") marks_clause
      ∷ instead 1 (codes "0.1 read EINTR ~0 -") answers_clause
      ∷ instead 2 (codes "0.2 read ok ~0,p:1@2,b:0@3 7ab6c07d92303142164272a17a686f2153159cc899057930e0cc0663fd417eb"
      ++ codes "cdb") data_clause ∷ [];
}

abbrev pub early_then_ready : Case
early_then_ready = record {
  script = one_cpu (
      codes "credit 127"
      ∷ codes "credit 1"
      ∷ codes "credit 127"
      ∷ codes "credit 1"
      ∷ codes "bits" ∷ []);
  lines =
      codes "0.0 credit ok p:0@1 -"
      ∷ codes "0.1 credit ok p:1@2,p:2@3,b:0@4 -"
      ∷ codes "0.2 credit ok p:3@5 -"
      ∷ codes "0.3 credit ok p:4@6,p:5@7,b:1@8 -"
      ∷ codes "0.4 bits ok p:6@9 256"
      ∷ codes "0.5 end ok b:2@10 -" ∷ [];
  near_misses =
      left_out 1
      ∷ instead 5 (codes "0.5 end ok b:3@10 -") marks_clause
      ∷ instead 0 (codes "0.0 credit EINVAL p:0@1 -") answers_clause
      ∷ instead 4 (codes "0.4 bits ok p:6@9 257") data_clause ∷ [];
}

abbrev pub early_step_skipped : Case
early_step_skipped = record {
  script = one_cpu (
      codes "credit 100"
      ∷ codes "credit 300"
      ∷ codes "bits" ∷ []);
  lines =
      codes "0.0 credit ok p:0@1 -"
      ∷ codes "0.1 credit ok p:1@2,p:2@3,b:0@4 -"
      ∷ codes "0.2 bits ok p:3@5 256"
      ∷ codes "0.3 end ok b:1@6 -" ∷ [];
  near_misses =
      left_out 1
      ∷ instead 3 (codes "0.3 end ok b:2@6 -") marks_clause
      ∷ instead 0 (codes "0.0 credit EINVAL p:0@1 -") answers_clause
      ∷ instead 2 (codes "0.2 bits ok p:3@5 257") data_clause ∷ [];
}

abbrev pub early_base_no_second_extraction : Case
early_base_no_second_extraction = record {
  script = one_cpu (
      codes "credit 127"
      ∷ codes "credit 1"
      ∷ codes "read 4 4"
      ∷ codes "bits" ∷ []);
  lines =
      codes "0.0 credit ok p:0@1 -"
      ∷ codes "0.1 credit ok p:1@2,p:2@3,b:0@4 -"
      ∷ codes "0.2 read ok ~0,b:1@5 11b92523"
      ∷ codes "0.3 bits ok p:3@6 128"
      ∷ codes "0.4 end ok b:2@7 -" ∷ [];
  near_misses =
      left_out 1
      ∷ instead 4 (codes "0.4 end ok b:3@7 -") marks_clause
      ∷ instead 2 (codes "0.2 read EINTR ~0,b:1@5 11b92523") answers_clause
      ∷ instead 3 (codes "0.3 bits ok p:3@6 129") data_clause ∷ [];
}

abbrev pub random_file_not_ready : Case
random_file_not_ready = record {
  script = one_cpu (
      codes "dread 5 1"
      ∷ codes "dread 5 0" ∷ []);
  lines =
      codes "0.0 dread EAGAIN ~0 -"
      ∷ codes "0.1 dread EINTR ~0,b:0@1,b:1@2 -"
      ∷ codes "0.2 end ok b:2@3 -" ∷ [];
  near_misses =
      left_out 1
      ∷ instead 2 (codes "0.2 end ok b:3@3 -") marks_clause
      ∷ instead 0 (codes "0.0 dread ok ~0 -") answers_clause ∷ [];
}

abbrev pub kernel_and_file_reads : Case
kernel_and_file_reads = record {
  script = one_cpu (
      codes "credit 256"
      ∷ codes "kread 33"
      ∷ codes "uread 0"
      ∷ codes "dread 5 1" ∷ []);
  lines =
      codes "0.0 credit ok p:0@1,p:1@2,b:0@3 -"
      ∷ codes "0.1 kread ok ~1,~1,b:1@4,c0:0@5 93271463054bc0f80e3db8a19892766dff71e40a4bb1e0ce3a182bbfe725df4a7a"
      ∷ codes "0.2 uread ok - -"
      ∷ codes "0.3 dread ok ~1,~1,c0:1@6 8c6732d075"
      ∷ codes "0.4 end ok b:2@7 -" ∷ [];
  near_misses =
      left_out 1
      ∷ instead 4 (codes "0.4 end ok b:3@7 -") marks_clause
      ∷ instead 1 (codes "0.1 kread EINTR ~1,~1,b:1@4,c0:0@5 93271463054bc0f80e3db8a19892766dff71e40a4bb1e0ce3a182bb"
      ++ codes "fe725df4a7a") answers_clause
      ∷ instead 3 (codes "0.3 dread ok ~1,~1,c0:1@6 8c6732d074") data_clause
      ∷ instead 1 (codes "0.1 kread ok ~0,~1,b:1@4,c0:0@5 93271463054bc0f80e3db8a19892766dff71e40a4bb1e0ce3a182bbfe7"
      ++ codes "25df4a7a") looks_clause ∷ [];
}
