-- Worked cases of vgetrandom calls.
use Rattle.std.specs.Prelude.{[], ◌∷◌, ◌++◌, codes}
use Rattle.key_names.specs.Transcripts.IsTranscript.{answers_clause, data_clause, looks_clause, marks_clause}
use Rattle.worked_cases.specs.Runs.{Case, left_out, instead, one_cpu, script_with}

abbrev pub vread_batch : Case
vread_batch = record {
  script = one_cpu (
      codes "credit 256"
      ∷ codes "vread 40 0"
      ∷ codes "vread 40 0"
      ∷ codes "vread 40 0" ∷ []);
  lines =
      codes "0.0 credit ok p:0@1,p:1@2,b:0@3 -"
      ∷ (codes "0.1 vread ok ~1,~1,~1,~1,b:1@4,c0:0@5,~1 e075b16b0c4452a518eca3ab47632384e594d8d16878e30fb"
      ++ codes "dc2dd5f21bd4ce02c16be73d82f3107")
      ∷ codes "0.2 vread ok ~1 88d46304e1bb3ad98e2f9e1c279b5a3f74567d0f498d570538395a332c27435cc73f7317729c1235"
      ∷ codes "0.3 vread ok ~1,~1,~1 1cc232eb613c5d2d4f802aa9d8769bd5bd90457f1fb7058d0efbb90e290a67cfe1fa5071dc279f71"
      ∷ codes "0.4 end ok b:2@6 -" ∷ [];
  near_misses =
      left_out 1
      ∷ instead 4 (codes "0.4 end ok b:3@6 -") marks_clause
      ∷ instead 1 (codes "0.1 vread EINTR ~1,~1,~1,~1,b:1@4,c0:0@5,~1 e075b16b0c4452a518eca3ab47632384e594d8d16878e3"
      ++ codes "0fbdc2dd5f21bd4ce02c16be73d82f3107") answers_clause
      ∷ instead 3 (codes "0.3 vread ok ~1,~1,~1 1cc232eb613c5d2d4f802aa9d8769bd5bd90457f1fb7058d0efbb90e290a67cfe1fa"
      ++ codes "5071dc279f70") data_clause ∷ [];
}

abbrev pub vread_of_nothing : Case
vread_of_nothing = record {
  script = one_cpu (
      codes "credit 256"
      ∷ codes "vread 0 0" ∷ []);
  lines =
      codes "0.0 credit ok p:0@1,p:1@2,b:0@3 -"
      ∷ codes "0.1 vread ok ~1 -"
      ∷ codes "0.2 end ok b:1@4 -" ∷ [];
  near_misses =
      left_out 1
      ∷ instead 2 (codes "0.2 end ok b:2@4 -") marks_clause
      ∷ instead 1 (codes "0.1 vread EINTR ~1 -") answers_clause
      ∷ instead 1 (codes "0.1 vread ok ~2 -") looks_clause ∷ [];
}

abbrev pub wipe_inside_with_nested_read : Case
wipe_inside_with_nested_read = record {
  script = one_cpu (
      codes "credit 256"
      ∷ codes "inside 3 wipe"
      ∷ codes "inside 3 vread 8"
      ∷ codes "vread 64 0" ∷ []);
  lines =
      codes "0.0 credit ok p:0@1,p:1@2,b:0@3 -"
      ∷ codes "0.1 inside ok - -"
      ∷ codes "0.2 inside ok ~1,~1,c0:1@6 8c6732d0757d0137"
      ∷ (codes "0.3 vread ok ~1,~1,~1,~1,b:1@4,c0:0@5,~1,~1,~1,~1,c0:2@7,~1 6b3f20176e87f14e2880b5c67c73fa"
      ++ codes "828684d2606bceeb4cf36707c408334da39f8db9206e972b3eedd3dceefb469cd71aef71cf2521737255286e55"
      ++ codes "8c1ad8ae")
      ∷ codes "0.4 end ok b:2@8 -" ∷ [];
  near_misses =
      left_out 1
      ∷ instead 4 (codes "0.4 end ok b:3@8 -") marks_clause
      ∷ instead 3 (codes "0.3 vread EINTR ~1,~1,~1,~1,b:1@4,c0:0@5,~1,~1,~1,~1,c0:2@7,~1 6b3f20176e87f14e2880b5c67c7"
      ++ codes "3fa828684d2606bceeb4cf36707c408334da39f8db9206e972b3eedd3dceefb469cd71aef71cf2521737255286"
      ++ codes "e558c1ad8ae") answers_clause
      ∷ instead 3 (codes "0.3 vread ok ~1,~1,~1,~1,b:1@4,c0:0@5,~1,~1,~1,~1,c0:2@7,~1 6b3f20176e87f14e2880b5c67c73fa"
      ++ codes "828684d2606bceeb4cf36707c408334da39f8db9206e972b3eedd3dceefb469cd71aef71cf2521737255286e55"
      ++ codes "8c1ad8af") data_clause ∷ [];
}

abbrev pub reseed_inside_vread : Case
reseed_inside_vread = record {
  script = one_cpu (
      codes "credit 256"
      ∷ codes "inside 3 reseed"
      ∷ codes "vread 40 0" ∷ []);
  lines =
      codes "0.0 credit ok p:0@1,p:1@2,b:0@3 -"
      ∷ codes "0.1 inside ok ~1,p:2@6,b:2@7 -"
      ∷ (codes "0.2 vread ok ~1,~1,~1,~1,b:1@4,c0:0@5,~2,~2,~2,~2,b:3@8,c0:1@9,~2 44021c3224b063c276d675a4"
      ++ codes "c4153ef50b6df9373af61430eac466b6d2d1123b75a2df01233cdda0")
      ∷ codes "0.3 end ok b:4@10 -" ∷ [];
  near_misses =
      left_out 1
      ∷ instead 3 (codes "0.3 end ok b:5@10 -") marks_clause
      ∷ instead 2 (codes "0.2 vread EINTR ~1,~1,~1,~1,b:1@4,c0:0@5,~2,~2,~2,~2,b:3@8,c0:1@9,~2 44021c3224b063c276d67"
      ++ codes "5a4c4153ef50b6df9373af61430eac466b6d2d1123b75a2df01233cdda0") answers_clause
      ∷ instead 2 (codes "0.2 vread ok ~1,~1,~1,~1,b:1@4,c0:0@5,~2,~2,~2,~2,b:3@8,c0:1@9,~2 44021c3224b063c276d675a4"
      ++ codes "c4153ef50b6df9373af61430eac466b6d2d1123b75a2df01233cdda1") data_clause
      ∷ instead 1 (codes "0.1 inside ok ~3,p:2@6,b:2@7 -") looks_clause ∷ [];
}

abbrev pub point_not_reached : Case
point_not_reached = record {
  script = one_cpu (
      codes "credit 256"
      ∷ codes "vread 8 0"
      ∷ codes "inside 2 wipe"
      ∷ codes "vread 8 0" ∷ []);
  lines =
      codes "0.0 credit ok p:0@1,p:1@2,b:0@3 -"
      ∷ codes "0.1 vread ok ~1,~1,~1,~1,b:1@4,c0:0@5,~1 e075b16b0c4452a5"
      ∷ codes "0.2 inside unused - -"
      ∷ codes "0.3 vread ok ~1,~1,~1 18eca3ab47632384"
      ∷ codes "0.4 end ok b:2@6 -" ∷ [];
  near_misses =
      left_out 1
      ∷ instead 4 (codes "0.4 end ok b:3@6 -") marks_clause
      ∷ instead 1 (codes "0.1 vread EINTR ~1,~1,~1,~1,b:1@4,c0:0@5,~1 e075b16b0c4452a5") answers_clause
      ∷ instead 3 (codes "0.3 vread ok ~1,~1,~1 18eca3ab47632385") data_clause ∷ [];
}

abbrev pub two_vgetrandom_states : Case
two_vgetrandom_states = record {
  script = script_with (codes "3") (codes "1") (
      codes "credit 256"
      ∷ codes "vread 40 0"
      ∷ codes "state 1"
      ∷ codes "vread 40 0"
      ∷ codes "state 0"
      ∷ codes "vread 40 0" ∷ []);
  lines =
      codes "0.0 credit ok p:0@1,p:1@2,b:0@3 -"
      ∷ (codes "0.1 vread ok ~1,~1,~1,~1,b:1@4,c0:0@5,~1 e075b16b0c4452a518eca3ab47632384e594d8d16878e30fb"
      ++ codes "dc2dd5f21bd4ce02c16be73d82f3107")
      ∷ codes "0.2 state ok - -"
      ∷ (codes "0.3 vread ok ~1,~1,~1,~1,c0:1@6,~1 223f1a93c3ab801c80b3bd773ec991fe8e669d8a1a244d0e108dd12"
      ++ codes "21c8b9c27088f786b2ea8fd14")
      ∷ codes "0.4 state ok - -"
      ∷ codes "0.5 vread ok ~1 88d46304e1bb3ad98e2f9e1c279b5a3f74567d0f498d570538395a332c27435cc73f7317729c1235"
      ∷ codes "0.6 end ok b:2@7 -" ∷ [];
  near_misses =
      left_out 1
      ∷ instead 6 (codes "0.6 end ok b:3@7 -") marks_clause
      ∷ instead 1 (codes "0.1 vread EINTR ~1,~1,~1,~1,b:1@4,c0:0@5,~1 e075b16b0c4452a518eca3ab47632384e594d8d16878e3"
      ++ codes "0fbdc2dd5f21bd4ce02c16be73d82f3107") answers_clause
      ∷ instead 5 (codes "0.5 vread ok ~1 88d46304e1bb3ad98e2f9e1c279b5a3f74567d0f498d570538395a332c27435cc73f731772"
      ++ codes "9c1234") data_clause ∷ [];
}

abbrev pub load_1_1_8 : Case
load_1_1_8 = record {
  script = one_cpu (
      codes "add 000102030405060708090a0b0c0d0e0f101112131415161718191a1b1c1d1e1f 256"
      ∷ codes "on 0"
      ∷ codes "vread 2 0"
      ∷ codes "kread 19"
      ∷ codes "int64"
      ∷ codes "irq 3 0"
      ∷ codes "write 0400000000000000"
      ∷ codes "uread 87"
      ∷ codes "reseed"
      ∷ codes "read 21 0" ∷ []);
  lines =
      codes "0.0 add ok p:0@1,p:1@2,b:0@3 -"
      ∷ codes "0.1 on ok - -"
      ∷ codes "0.2 vread ok ~1,~1,~1,~1,b:1@4,c0:0@5,~1 3acc"
      ∷ codes "0.3 kread ok ~1,~1,c0:1@6 a9345815ea9470701d16c8c1f36fe9ae5f1bfc"
      ∷ codes "0.4 int64 ok ~1,~1,c0:2@7 62a7b1ecb7e335a3"
      ∷ codes "0.5 irq ok c0:3@8 -"
      ∷ codes "0.6 write ok p:2@9 -"
      ∷ (codes "0.7 uread ok ~1,~1,c0:4@10 33b420ea9a38acfffce57fb5bda5625a67f6aa03ad3b33f68235d0cc671e0a0"
      ++ codes "10c49866c5b5cb1a6a8c9b465e1550cb33e6b47f40a7b84fc057f5b2b2f1318b702684488dfdb1b72f742cd81a"
      ++ codes "4dac637c6f972fee9e037")
      ∷ codes "0.8 reseed ok ~1,p:3@11,b:2@12 -"
      ∷ codes "0.9 read ok ~2,~2,b:3@13,c0:5@14 4933a5d31556f60a44d12b3fc7355f18936a16970c"
      ∷ codes "0.10 end ok b:4@15 -" ∷ [];
  near_misses =
      left_out 1
      ∷ instead 10 (codes "0.10 end ok b:5@15 -") marks_clause
      ∷ instead 2 (codes "0.2 vread EINTR ~1,~1,~1,~1,b:1@4,c0:0@5,~1 3acc") answers_clause
      ∷ instead 9 (codes "0.9 read ok ~2,~2,b:3@13,c0:5@14 4933a5d31556f60a44d12b3fc7355f18936a16970d") data_clause
      ∷ [];
}
