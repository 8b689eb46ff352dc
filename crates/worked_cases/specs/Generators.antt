-- The base and the CPUs of a ready core: refills, reseeds and their timer, batched integers.
use Rattle.std.specs.Prelude.{[], ◌∷◌, codes}
use Rattle.key_names.specs.Transcripts.IsTranscript.{answers_clause, data_clause, looks_clause, marks_clause}
use Rattle.worked_cases.specs.Runs.{Case, left_out, instead, instead_both, one_cpu, script_with}

abbrev pub two_cpus : Case
two_cpus = record {
  script = script_with (codes "1") (codes "2") (
      codes "credit 256"
      ∷ codes "read 8 0"
      ∷ codes "on 1"
      ∷ codes "read 8 0"
      ∷ codes "read 8 0"
      ∷ codes "reseed"
      ∷ codes "read 8 0" ∷ []);
  lines =
      codes "0.0 credit ok p:0@1,p:1@2,b:0@3 -"
      ∷ codes "0.1 read ok ~1,~1,b:1@4,c0:0@5 93271463054bc0f8"
      ∷ codes "0.2 on ok - -"
      ∷ codes "0.3 read ok ~1,~1,b:2@6,c1:0@7 5dfce721438a4431"
      ∷ codes "0.4 read ok ~1,~1,c1:1@8 2e310699e61eaa5a"
      ∷ codes "0.5 reseed ok ~1,p:2@9,b:3@10 -"
      ∷ codes "0.6 read ok ~2,~2,b:4@11,c1:2@12 f198160e1100359a"
      ∷ codes "0.7 end ok b:5@13 -" ∷ [];
  near_misses =
      left_out 1
      ∷ instead 7 (codes "0.7 end ok b:6@13 -") marks_clause
      ∷ instead 1 (codes "0.1 read EINTR ~1,~1,b:1@4,c0:0@5 93271463054bc0f8") answers_clause
      ∷ instead 6 (codes "0.6 read ok ~2,~2,b:4@11,c1:2@12 f198160e1100359b") data_clause
      ∷ instead_both 3 (codes "0.3 read ok ~1,~1,b:2@6,c1:0@8 5dfce721438a4431")
      4 (codes "0.4 read ok ~1,~1,c1:1@7 2e310699e61eaa5a") marks_clause
      ∷ instead 6 (codes "0.6 read ok ~1,~2,b:4@11,c1:2@12 f198160e1100359a") looks_clause ∷ [];
}

abbrev pub cpu_255 : Case
cpu_255 = record {
  script = script_with (codes "3") (codes "256") (
      codes "credit 256"
      ∷ codes "on 255"
      ∷ codes "read 8 0" ∷ []);
  lines =
      codes "0.0 credit ok p:0@1,p:1@2,b:0@3 -"
      ∷ codes "0.1 on ok - -"
      ∷ codes "0.2 read ok ~1,~1,b:1@4,c255:0@5 93271463054bc0f8"
      ∷ codes "0.3 end ok b:2@6 -" ∷ [];
  near_misses =
      left_out 1
      ∷ instead 3 (codes "0.3 end ok b:3@6 -") marks_clause
      ∷ instead 2 (codes "0.2 read EINTR ~1,~1,b:1@4,c255:0@5 93271463054bc0f8") answers_clause
      ∷ instead 2 (codes "0.2 read ok ~1,~1,b:1@4,c255:0@5 93271463054bc0f9") data_clause
      ∷ instead 2 (codes "0.2 read ok ~2,~1,b:1@4,c255:0@5 93271463054bc0f8") looks_clause ∷ [];
}

abbrev pub reseed_timer : Case
reseed_timer = record {
  script = one_cpu (
      codes "credit 256"
      ∷ codes "at 999"
      ∷ codes "tick"
      ∷ codes "at 1000"
      ∷ codes "tick"
      ∷ codes "at 1500"
      ∷ codes "reseed"
      ∷ codes "at 1999"
      ∷ codes "tick"
      ∷ codes "at 2000"
      ∷ codes "tick" ∷ []);
  lines =
      codes "0.0 credit ok p:0@1,p:1@2,b:0@3 -"
      ∷ codes "0.1 at ok - -"
      ∷ codes "0.2 tick idle b:1@4 -"
      ∷ codes "0.3 at ok - -"
      ∷ codes "0.4 tick fired p:2@5,b:2@6 -"
      ∷ codes "0.5 at ok - -"
      ∷ codes "0.6 reseed ok ~2,p:3@7,b:3@8 -"
      ∷ codes "0.7 at ok - -"
      ∷ codes "0.8 tick idle b:4@9 -"
      ∷ codes "0.9 at ok - -"
      ∷ codes "0.10 tick fired p:4@10,b:5@11 -"
      ∷ codes "0.11 end ok b:6@12 -" ∷ [];
  near_misses =
      left_out 1
      ∷ instead 11 (codes "0.11 end ok b:7@12 -") marks_clause
      ∷ instead 2 (codes "0.2 tick fired b:1@4 -") answers_clause
      ∷ instead 6 (codes "0.6 reseed ok ~1,p:3@7,b:3@8 -") looks_clause ∷ [];
}

abbrev pub late_interval : Case
late_interval = record {
  script = one_cpu (
      codes "at 120000"
      ∷ codes "credit 256"
      ∷ codes "at 179999"
      ∷ codes "tick"
      ∷ codes "at 180000"
      ∷ codes "tick"
      ∷ codes "at 5000"
      ∷ codes "reseed"
      ∷ codes "at 239999"
      ∷ codes "tick"
      ∷ codes "at 240000"
      ∷ codes "tick" ∷ []);
  lines =
      codes "0.0 at ok - -"
      ∷ codes "0.1 credit ok p:0@1,p:1@2,b:0@3 -"
      ∷ codes "0.2 at ok - -"
      ∷ codes "0.3 tick idle b:1@4 -"
      ∷ codes "0.4 at ok - -"
      ∷ codes "0.5 tick fired p:2@5,b:2@6 -"
      ∷ codes "0.6 at ok - -"
      ∷ codes "0.7 reseed ok ~2,p:3@7,b:3@8 -"
      ∷ codes "0.8 at ok - -"
      ∷ codes "0.9 tick idle b:4@9 -"
      ∷ codes "0.10 at ok - -"
      ∷ codes "0.11 tick fired p:4@10,b:5@11 -"
      ∷ codes "0.12 end ok b:6@12 -" ∷ [];
  near_misses =
      left_out 1
      ∷ instead 12 (codes "0.12 end ok b:7@12 -") marks_clause
      ∷ instead 3 (codes "0.3 tick fired b:1@4 -") answers_clause
      ∷ instead 7 (codes "0.7 reseed ok ~1,p:3@7,b:3@8 -") looks_clause ∷ [];
}

abbrev pub int16_across_readiness_and_reseed : Case
int16_across_readiness_and_reseed = record {
  script = one_cpu (
      codes "int16"
      ∷ codes "credit 256"
      ∷ codes "int16"
      ∷ codes "reseed"
      ∷ codes "int16" ∷ []);
  lines =
      codes "0.0 int16 ok ~0,p:0@1,b:0@2 11b9"
      ∷ codes "0.1 credit ok p:1@3,p:2@4,b:1@5 -"
      ∷ codes "0.2 int16 ok ~1,~1,b:2@6,c0:0@7 f198"
      ∷ codes "0.3 reseed ok ~1,p:3@8,b:3@9 -"
      ∷ codes "0.4 int16 ok ~2,~2,b:4@10,c0:1@11 80de"
      ∷ codes "0.5 end ok b:5@12 -" ∷ [];
  near_misses =
      left_out 1
      ∷ instead 5 (codes "0.5 end ok b:6@12 -") marks_clause
      ∷ instead 3 (codes "0.3 reseed EINTR ~1,p:3@8,b:3@9 -") answers_clause
      ∷ instead 4 (codes "0.4 int16 ok ~2,~2,b:4@10,c0:1@11 80df") data_clause
      ∷ instead 4 (codes "0.4 int16 ok ~1,~2,b:4@10,c0:1@11 80de") looks_clause ∷ [];
}

abbrev pub prepare_refills : Case
prepare_refills = record {
  script = script_with (codes "2") (codes "1") (
      codes "credit 256"
      ∷ codes "int32"
      ∷ codes "prepare 0"
      ∷ codes "int32" ∷ []);
  lines =
      codes "0.0 credit ok p:0@1,p:1@2,b:0@3 -"
      ∷ codes "0.1 int32 ok ~1,~1,b:1@4,c0:0@5 93271463"
      ∷ codes "0.2 prepare ok c0:1@6 -"
      ∷ codes "0.3 int32 ok ~1,~1,b:2@7,c0:2@8 5dfce721"
      ∷ codes "0.4 end ok b:3@9 -" ∷ [];
  near_misses =
      left_out 1
      ∷ instead 4 (codes "0.4 end ok b:4@9 -") marks_clause
      ∷ instead 0 (codes "0.0 credit EINVAL p:0@1,p:1@2,b:0@3 -") answers_clause
      ∷ instead 3 (codes "0.3 int32 ok ~1,~1,b:2@7,c0:2@8 5dfce720") data_clause
      ∷ instead 3 (codes "0.3 int32 ok ~2,~1,b:2@7,c0:2@8 5dfce721") looks_clause ∷ [];
}

abbrev pub vmfork_before_and_after_readiness : Case
vmfork_before_and_after_readiness = record {
  script = script_with (codes "2") (codes "1") (
      codes "vmfork 5 aa"
      ∷ codes "credit 256"
      ∷ codes "vmfork 5 aa" ∷ []);
  lines =
      codes "0.0 vmfork ok p:0@1,~0 -"
      ∷ codes "0.1 credit ok p:1@2,p:2@3,b:0@4 -"
      ∷ codes "0.2 vmfork ok p:3@5,~1,p:4@6,b:1@7 -"
      ∷ codes "0.3 end ok b:2@8 -" ∷ [];
  near_misses =
      left_out 1
      ∷ instead 3 (codes "0.3 end ok b:3@8 -") marks_clause
      ∷ instead 0 (codes "0.0 vmfork EINVAL p:0@1,~0 -") answers_clause
      ∷ instead 2 (codes "0.2 vmfork ok p:3@5,~3,p:4@6,b:1@7 -") looks_clause ∷ [];
}

abbrev pub int8_batch_of_96 : Case
int8_batch_of_96 = record {
  script = one_cpu (
      codes "credit 256"
      ∷ codes "int8"
      ∷ codes "int8"
      ∷ codes "int8"
      ∷ codes "int8"
      ∷ codes "int8"
      ∷ codes "int8"
      ∷ codes "int8"
      ∷ codes "int8"
      ∷ codes "int8"
      ∷ codes "int8"
      ∷ codes "int8"
      ∷ codes "int8"
      ∷ codes "int8"
      ∷ codes "int8"
      ∷ codes "int8"
      ∷ codes "int8"
      ∷ codes "int8"
      ∷ codes "int8"
      ∷ codes "int8"
      ∷ codes "int8"
      ∷ codes "int8"
      ∷ codes "int8"
      ∷ codes "int8"
      ∷ codes "int8"
      ∷ codes "int8"
      ∷ codes "int8"
      ∷ codes "int8"
      ∷ codes "int8"
      ∷ codes "int8"
      ∷ codes "int8"
      ∷ codes "int8"
      ∷ codes "int8"
      ∷ codes "int8"
      ∷ codes "int8"
      ∷ codes "int8"
      ∷ codes "int8"
      ∷ codes "int8"
      ∷ codes "int8"
      ∷ codes "int8"
      ∷ codes "int8"
      ∷ codes "int8"
      ∷ codes "int8"
      ∷ codes "int8"
      ∷ codes "int8"
      ∷ codes "int8"
      ∷ codes "int8"
      ∷ codes "int8"
      ∷ codes "int8"
      ∷ codes "int8"
      ∷ codes "int8"
      ∷ codes "int8"
      ∷ codes "int8"
      ∷ codes "int8"
      ∷ codes "int8"
      ∷ codes "int8"
      ∷ codes "int8"
      ∷ codes "int8"
      ∷ codes "int8"
      ∷ codes "int8"
      ∷ codes "int8"
      ∷ codes "int8"
      ∷ codes "int8"
      ∷ codes "int8"
      ∷ codes "int8"
      ∷ codes "int8"
      ∷ codes "int8"
      ∷ codes "int8"
      ∷ codes "int8"
      ∷ codes "int8"
      ∷ codes "int8"
      ∷ codes "int8"
      ∷ codes "int8"
      ∷ codes "int8"
      ∷ codes "int8"
      ∷ codes "int8"
      ∷ codes "int8"
      ∷ codes "int8"
      ∷ codes "int8"
      ∷ codes "int8"
      ∷ codes "int8"
      ∷ codes "int8"
      ∷ codes "int8"
      ∷ codes "int8"
      ∷ codes "int8"
      ∷ codes "int8"
      ∷ codes "int8"
      ∷ codes "int8"
      ∷ codes "int8"
      ∷ codes "int8"
      ∷ codes "int8"
      ∷ codes "int8"
      ∷ codes "int8"
      ∷ codes "int8"
      ∷ codes "int8"
      ∷ codes "int8"
      ∷ codes "int8"
      ∷ codes "int8" ∷ []);
  lines =
      codes "0.0 credit ok p:0@1,p:1@2,b:0@3 -"
      ∷ codes "0.1 int8 ok ~1,~1,b:1@4,c0:0@5 93"
      ∷ codes "0.2 int8 ok ~1,~1,c0:1@6 27"
      ∷ codes "0.3 int8 ok ~1,~1,c0:2@7 14"
      ∷ codes "0.4 int8 ok ~1,~1,c0:3@8 63"
      ∷ codes "0.5 int8 ok ~1,~1,c0:4@9 05"
      ∷ codes "0.6 int8 ok ~1,~1,c0:5@10 4b"
      ∷ codes "0.7 int8 ok ~1,~1,c0:6@11 c0"
      ∷ codes "0.8 int8 ok ~1,~1,c0:7@12 f8"
      ∷ codes "0.9 int8 ok ~1,~1,c0:8@13 0e"
      ∷ codes "0.10 int8 ok ~1,~1,c0:9@14 3d"
      ∷ codes "0.11 int8 ok ~1,~1,c0:10@15 b8"
      ∷ codes "0.12 int8 ok ~1,~1,c0:11@16 a1"
      ∷ codes "0.13 int8 ok ~1,~1,c0:12@17 98"
      ∷ codes "0.14 int8 ok ~1,~1,c0:13@18 92"
      ∷ codes "0.15 int8 ok ~1,~1,c0:14@19 76"
      ∷ codes "0.16 int8 ok ~1,~1,c0:15@20 6d"
      ∷ codes "0.17 int8 ok ~1,~1,c0:16@21 ff"
      ∷ codes "0.18 int8 ok ~1,~1,c0:17@22 71"
      ∷ codes "0.19 int8 ok ~1,~1,c0:18@23 e4"
      ∷ codes "0.20 int8 ok ~1,~1,c0:19@24 0a"
      ∷ codes "0.21 int8 ok ~1,~1,c0:20@25 4b"
      ∷ codes "0.22 int8 ok ~1,~1,c0:21@26 b1"
      ∷ codes "0.23 int8 ok ~1,~1,c0:22@27 e0"
      ∷ codes "0.24 int8 ok ~1,~1,c0:23@28 ce"
      ∷ codes "0.25 int8 ok ~1,~1,c0:24@29 3a"
      ∷ codes "0.26 int8 ok ~1,~1,c0:25@30 18"
      ∷ codes "0.27 int8 ok ~1,~1,c0:26@31 2b"
      ∷ codes "0.28 int8 ok ~1,~1,c0:27@32 bf"
      ∷ codes "0.29 int8 ok ~1,~1,c0:28@33 e7"
      ∷ codes "0.30 int8 ok ~1,~1,c0:29@34 25"
      ∷ codes "0.31 int8 ok ~1,~1,c0:30@35 df"
      ∷ codes "0.32 int8 ok ~1,~1,c0:31@36 4a"
      ∷ codes "0.33 int8 ok ~1,~1,c0:32@37 7a"
      ∷ codes "0.34 int8 ok ~1,~1,c0:33@38 b6"
      ∷ codes "0.35 int8 ok ~1,~1,c0:34@39 c0"
      ∷ codes "0.36 int8 ok ~1,~1,c0:35@40 7d"
      ∷ codes "0.37 int8 ok ~1,~1,c0:36@41 92"
      ∷ codes "0.38 int8 ok ~1,~1,c0:37@42 30"
      ∷ codes "0.39 int8 ok ~1,~1,c0:38@43 31"
      ∷ codes "0.40 int8 ok ~1,~1,c0:39@44 42"
      ∷ codes "0.41 int8 ok ~1,~1,c0:40@45 16"
      ∷ codes "0.42 int8 ok ~1,~1,c0:41@46 42"
      ∷ codes "0.43 int8 ok ~1,~1,c0:42@47 72"
      ∷ codes "0.44 int8 ok ~1,~1,c0:43@48 a1"
      ∷ codes "0.45 int8 ok ~1,~1,c0:44@49 7a"
      ∷ codes "0.46 int8 ok ~1,~1,c0:45@50 68"
      ∷ codes "0.47 int8 ok ~1,~1,c0:46@51 6f"
      ∷ codes "0.48 int8 ok ~1,~1,c0:47@52 21"
      ∷ codes "0.49 int8 ok ~1,~1,c0:48@53 53"
      ∷ codes "0.50 int8 ok ~1,~1,c0:49@54 15"
      ∷ codes "0.51 int8 ok ~1,~1,c0:50@55 9c"
      ∷ codes "0.52 int8 ok ~1,~1,c0:51@56 c8"
      ∷ codes "0.53 int8 ok ~1,~1,c0:52@57 99"
      ∷ codes "0.54 int8 ok ~1,~1,c0:53@58 05"
      ∷ codes "0.55 int8 ok ~1,~1,c0:54@59 79"
      ∷ codes "0.56 int8 ok ~1,~1,c0:55@60 30"
      ∷ codes "0.57 int8 ok ~1,~1,c0:56@61 e0"
      ∷ codes "0.58 int8 ok ~1,~1,c0:57@62 cc"
      ∷ codes "0.59 int8 ok ~1,~1,c0:58@63 06"
      ∷ codes "0.60 int8 ok ~1,~1,c0:59@64 63"
      ∷ codes "0.61 int8 ok ~1,~1,c0:60@65 fd"
      ∷ codes "0.62 int8 ok ~1,~1,c0:61@66 41"
      ∷ codes "0.63 int8 ok ~1,~1,c0:62@67 7e"
      ∷ codes "0.64 int8 ok ~1,~1,c0:63@68 bc"
      ∷ codes "0.65 int8 ok ~1,~1,c0:64@69 da"
      ∷ codes "0.66 int8 ok ~1,~1,c0:65@70 8c"
      ∷ codes "0.67 int8 ok ~1,~1,c0:66@71 5b"
      ∷ codes "0.68 int8 ok ~1,~1,c0:67@72 f7"
      ∷ codes "0.69 int8 ok ~1,~1,c0:68@73 f3"
      ∷ codes "0.70 int8 ok ~1,~1,c0:69@74 c1"
      ∷ codes "0.71 int8 ok ~1,~1,c0:70@75 59"
      ∷ codes "0.72 int8 ok ~1,~1,c0:71@76 62"
      ∷ codes "0.73 int8 ok ~1,~1,c0:72@77 20"
      ∷ codes "0.74 int8 ok ~1,~1,c0:73@78 c1"
      ∷ codes "0.75 int8 ok ~1,~1,c0:74@79 b7"
      ∷ codes "0.76 int8 ok ~1,~1,c0:75@80 c5"
      ∷ codes "0.77 int8 ok ~1,~1,c0:76@81 90"
      ∷ codes "0.78 int8 ok ~1,~1,c0:77@82 5f"
      ∷ codes "0.79 int8 ok ~1,~1,c0:78@83 7d"
      ∷ codes "0.80 int8 ok ~1,~1,c0:79@84 50"
      ∷ codes "0.81 int8 ok ~1,~1,c0:80@85 71"
      ∷ codes "0.82 int8 ok ~1,~1,c0:81@86 3f"
      ∷ codes "0.83 int8 ok ~1,~1,c0:82@87 1e"
      ∷ codes "0.84 int8 ok ~1,~1,c0:83@88 92"
      ∷ codes "0.85 int8 ok ~1,~1,c0:84@89 fb"
      ∷ codes "0.86 int8 ok ~1,~1,c0:85@90 d5"
      ∷ codes "0.87 int8 ok ~1,~1,c0:86@91 f0"
      ∷ codes "0.88 int8 ok ~1,~1,c0:87@92 bf"
      ∷ codes "0.89 int8 ok ~1,~1,c0:88@93 48"
      ∷ codes "0.90 int8 ok ~1,~1,c0:89@94 5f"
      ∷ codes "0.91 int8 ok ~1,~1,c0:90@95 39"
      ∷ codes "0.92 int8 ok ~1,~1,c0:91@96 73"
      ∷ codes "0.93 int8 ok ~1,~1,c0:92@97 f8"
      ∷ codes "0.94 int8 ok ~1,~1,c0:93@98 c3"
      ∷ codes "0.95 int8 ok ~1,~1,c0:94@99 b1"
      ∷ codes "0.96 int8 ok ~1,~1,c0:95@100 c6"
      ∷ codes "0.97 int8 ok ~1,~1,c0:96@101 8c"
      ∷ codes "0.98 end ok b:2@102 -" ∷ [];
  near_misses =
      left_out 1
      ∷ instead 98 (codes "0.98 end ok b:3@102 -") marks_clause
      ∷ instead 0 (codes "0.0 credit EINVAL p:0@1,p:1@2,b:0@3 -") answers_clause
      ∷ instead 97 (codes "0.97 int8 ok ~1,~1,c0:96@101 8d") data_clause ∷ [];
}
