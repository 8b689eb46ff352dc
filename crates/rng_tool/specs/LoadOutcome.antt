-- The right output of the command `load`, and how the command ends.
use Rattle.std.specs.Prelude.{ℕ, ◌≡◌, ◌<◌, ◌≤◌, ◌^◌, List, [], ◌∷◌, Option, ◌++◌, String, string_bytes, codes, decimal, length, map, sum_by}
use Rattle.key_names.specs.declared.lines.Data.{Data}
use Rattle.key_names.specs.declared.lines.Data.TheVariants.{Bytes}
use Rattle.key_names.specs.Transcripts.SeenLine.{SeenLine, bytes_shown}
use Rattle.key_names.specs.Texts.TranscriptGrammar.{all_lines}
use Rattle.event_script.specs.LoadScript.{load_script}
use Rattle.key_names.specs.Transcripts.IsTranscript.{clause_number}
use Rattle.judge_lines.specs.Clauses.{clause_of}
use Rattle.transcript_check.specs.Judged.{IsSound}
use Rattle.transcript_check.specs.declared.check.Verdict.{Verdict}
use Rattle.transcript_check.specs.declared.check.Verdict.TheVariants.{Yes, No}
use Rattle.rng_tool.specs.declared.load.LoadRequest.{LoadRequest}
use Rattle.tool_ends.specs.Ends.{EndsWith}
use Rattle.tool_ends.specs.declared.status.Status.{Status}

-- the texts are `load START CALLERS EVENTS`, with numbers in their ranges
pub record AskLoad (texts : List (List ℕ)) (start callers events : ℕ) : Type 0 where
  pub spelt : texts ≡ codes "load" ∷ decimal start ∷ decimal callers ∷ decimal events ∷ []
  pub start_fits : start < 2 ^ 32
  pub callers_fit : (1 ≤ callers) × (callers ≤ 64)
  pub events_fit : (1 ≤ events) × (events ≤ 1000)

-- there are 1 to 64 callers, with 1 to 1,000 events each
pub record IsSmall (load : LoadRequest) : Type 0 where
  pub callers : (1 ≤ load.callers) × (load.callers ≤ 64)
  pub events : (1 ≤ load.events) × (load.events ≤ 1000)

-- the words of the command line are `load START CALLERS EVENTS` with these numbers, and each number is in its range
abbrev pub IsLoad : {A : Type 0} → List (String A) → ℕ → ℕ → ℕ → Type 0
IsLoad words start callers events = AskLoad (map string_bytes words) start callers events

-- the end of a load's line: the verdict of the check
abbrev pub check_words : Verdict → List ℕ
check_words Yes = codes " check yes\n"
check_words (No clause) = codes " check no " ++ decimal (clause_number (clause_of clause)) ++ codes "\n"

abbrev pub load_line : ℕ → ℕ → ℕ → Verdict → List ℕ
load_line callers events bytes verdict =
    codes "callers " ++ decimal callers ++ codes " events " ++ decimal events ++ codes " bytes " ++ decimal bytes
    ++ check_words verdict

-- the number of bytes in a line's data
abbrev pub data_len : Data → ℕ
data_len (Bytes len start) = len
data_len _ = 0

-- the output is one line. It has the numbers of callers and events of the load's script, the number of bytes that a
-- lawful transcript for this script shows, and `check yes`
pub record LoadOf (start callers events : ℕ) (output : List ℕ) : Type 0 where
  pub lines : List (List SeenLine)
  pub run : IsSound (load_script start callers events) lines
  pub emitted : output ≡ load_line callers (sum_by length (load_script start callers events).callers)
      (length (bytes_shown (all_lines lines))) Yes

-- how the command `load` ends: its status, and the content of the sink before and after
abbrev pub LoadEnds : ℕ → ℕ → ℕ → Status → Option (List ℕ) → Option (List ℕ) → Type 0
LoadEnds start callers events = EndsWith (LoadOf start callers events)
