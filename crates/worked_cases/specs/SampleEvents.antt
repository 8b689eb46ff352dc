-- Worked cases of interrupts and input events.
use Rattle.std.specs.Prelude.{[], ◌∷◌, codes}
use Rattle.key_names.specs.Transcripts.IsTranscript.{answers_clause, data_clause, marks_clause}
use Rattle.worked_cases.specs.Runs.{Case, left_out, instead, one_cpu}

abbrev pub irq_at_1000_no_dump : Case
irq_at_1000_no_dump = record {
  script = one_cpu (
      codes "at 1000"
      ∷ codes "irq 1 2"
      ∷ codes "bits" ∷ []);
  lines =
      codes "0.0 at ok - -"
      ∷ codes "0.1 irq ok c0:0@1 -"
      ∷ codes "0.2 bits ok p:0@2 0"
      ∷ codes "0.3 end ok b:0@3 -" ∷ [];
  near_misses =
      left_out 1
      ∷ instead 3 (codes "0.3 end ok b:1@3 -") marks_clause
      ∷ instead 0 (codes "0.0 at EINVAL - -") answers_clause
      ∷ instead 2 (codes "0.2 bits ok p:0@2 1") data_clause ∷ [];
}

abbrev pub irq_at_1001_dumps : Case
irq_at_1001_dumps = record {
  script = one_cpu (
      codes "at 1001"
      ∷ codes "irq 1 2"
      ∷ codes "bits" ∷ []);
  lines =
      codes "0.0 at ok - -"
      ∷ codes "0.1 irq ok c0:0@1,c0:1@2,p:0@3 -"
      ∷ codes "0.2 bits ok p:1@4 1"
      ∷ codes "0.3 end ok b:0@5 -" ∷ [];
  near_misses =
      left_out 1
      ∷ instead 3 (codes "0.3 end ok b:1@5 -") marks_clause
      ∷ instead 0 (codes "0.0 at EINVAL - -") answers_clause
      ∷ instead 2 (codes "0.2 bits ok p:1@4 2") data_clause ∷ [];
}

abbrev pub input_timer : Case
input_timer = record {
  script = one_cpu (
      codes "at 1000"
      ∷ codes "input 0 1 30 1"
      ∷ codes "bits"
      ∷ codes "at 3000"
      ∷ codes "input 0 1 30 2"
      ∷ codes "bits"
      ∷ codes "at 8000"
      ∷ codes "input 0 1 30 3"
      ∷ codes "bits"
      ∷ codes "input 0 1 30 3"
      ∷ codes "bits" ∷ []);
  lines =
      codes "0.0 at ok - -"
      ∷ codes "0.1 input ok p:0@1 -"
      ∷ codes "0.2 bits ok p:1@2 9"
      ∷ codes "0.3 at ok - -"
      ∷ codes "0.4 input ok p:2@3 -"
      ∷ codes "0.5 bits ok p:3@4 9"
      ∷ codes "0.6 at ok - -"
      ∷ codes "0.7 input ok p:4@5 -"
      ∷ codes "0.8 bits ok p:5@6 19"
      ∷ codes "0.9 input ok p:6@7 -"
      ∷ codes "0.10 bits ok p:7@8 19"
      ∷ codes "0.11 end ok b:0@9 -" ∷ [];
  near_misses =
      left_out 1
      ∷ instead 11 (codes "0.11 end ok b:1@9 -") marks_clause
      ∷ instead 0 (codes "0.0 at EINVAL - -") answers_clause
      ∷ instead 10 (codes "0.10 bits ok p:7@8 20") data_clause ∷ [];
}

abbrev pub input_bytes_mixed : Case
input_bytes_mixed = record {
  script = one_cpu (
      codes "at 1000"
      ∷ codes "input 0 1 30 1"
      ∷ codes "read 8 4" ∷ []);
  lines =
      codes "0.0 at ok - -"
      ∷ codes "0.1 input ok p:0@1 -"
      ∷ codes "0.2 read ok ~0,p:1@2,b:0@3 aa0afa483f4c6e77"
      ∷ codes "0.3 end ok b:1@4 -" ∷ [];
  near_misses =
      left_out 1
      ∷ instead 3 (codes "0.3 end ok b:2@4 -") marks_clause
      ∷ instead 2 (codes "0.2 read EINTR ~0,p:1@2,b:0@3 aa0afa483f4c6e77") answers_clause
      ∷ instead 2 (codes "0.2 read ok ~0,p:1@2,b:0@3 aa0afa483f4c6e76") data_clause ∷ [];
}
