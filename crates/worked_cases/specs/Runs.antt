-- The meaning of a worked case: the text of its transcript is lawful for the text of its script, and its near misses
-- are not.
use Rattle.std.specs.Prelude.{ℕ, suc, List, [], ◌∷◌, ◌++◌, codes, take, drop, slice_set}
use Rattle.std.specs.List.{AllByRecursion}
use Rattle.key_names.specs.Transcripts.SeenLine.{SeenLine}
use Rattle.key_names.specs.Texts.Spelling.{lined}
use Rattle.key_names.specs.Texts.ScriptGrammar.{Script, IsScript}
use Rattle.key_names.specs.Texts.TranscriptGrammar.{IsTranscriptText}
use Rattle.key_names.specs.Transcripts.IsTranscript.{IsTranscript, FirstFails, Clause, lines_clause}

-- `input` is the text of a script, and `output` is the text of a transcript that is lawful for this script
pub record IsLawfulRun (input output : List ℕ) : Type 0 where
  pub script : Script
  pub lines : List (List SeenLine)
  pub script_is : IsScript script input
  pub lines_are : IsTranscriptText output lines
  pub lawful : IsTranscript script lines

-- `input` is the text of a script, `output` is the text of a transcript, and `clause` is the first that fails for them
pub record FailsFirst (clause : Clause) (input output : List ℕ) : Type 0 where
  pub script : Script
  pub lines : List (List SeenLine)
  pub script_is : IsScript script input
  pub lines_are : IsTranscriptText output lines
  pub fails : FirstFails script lines clause

-- A near miss is a changed transcript, and the first clause that fails for it. One of the transcript's lines, numbered
-- from 0, is left out, or one or two of these lines are replaced.
pub data NearMiss : Type 0 where
  left_out : ℕ → NearMiss
  instead : ℕ → List ℕ → Clause → NearMiss
  instead_both : ℕ → List ℕ → ℕ → List ℕ → Clause → NearMiss

abbrev pub clause_missed : NearMiss → Clause
clause_missed (left_out n) = lines_clause
clause_missed (instead n line clause) = clause
clause_missed (instead_both n line m other clause) = clause

abbrev pub lines_with : List (List ℕ) → NearMiss → List (List ℕ)
lines_with lines (left_out n) = take n lines ++ drop (suc n) lines
lines_with lines (instead n line clause) = slice_set lines n line
lines_with lines (instead_both n line m other clause) = slice_set (slice_set lines n line) m other

-- a worked case: the text of a script, the lines of its transcript without the first and the last line, and near misses
pub record Case : Type 0 where
  pub script : List ℕ
  pub lines : List (List ℕ)
  pub near_misses : List NearMiss

abbrev pub transcript_with : List (List ℕ) → List ℕ
transcript_with lines = lined (codes "rngtranscript 1" ∷ lines ++ codes "end" ∷ [])

-- the transcript of `case` is lawful, and for each near miss the clause given with it is the first that fails
pub record Holds (case : Case) : Type 0 where
  pub lawful : IsLawfulRun case.script (transcript_with case.lines)
  pub near_misses : AllByRecursion
      (λ miss. FailsFirst (clause_missed miss) case.script (transcript_with (lines_with case.lines miss)))
      case.near_misses

-- the text of a script with the given version and number of CPUs; `lines` are the lines between `caller 0` and `end`
abbrev pub script_with : List ℕ → List ℕ → List (List ℕ) → List ℕ
script_with version cpus lines = lined (
    (codes "rngscript " ++ version) ∷ (codes "cpus " ++ cpus) ∷ codes "caller 0" ∷ lines ++ codes "end" ∷ [])

abbrev pub one_cpu : List (List ℕ) → List ℕ
one_cpu lines = script_with (codes "1") (codes "1") lines
