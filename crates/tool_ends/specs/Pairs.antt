-- An input that is a script with a transcript after it, and the answers to any other input.
use Rattle.std.specs.Prelude.{ℕ, ◌≡◌, ◌⊎◌, ◌+◌, ◌≤◌, ⊤, List, [], ◌∷◌, Option, Some, codes, drop, length, nat_lt}
use Rattle.std.specs.Prelude.{if◌then◌else◌}
use Rattle.std.specs.Fmt.{decimal}
use Rattle.std.specs.Io.KnownBytes.{Keeps}
use Rattle.io_edges.specs.Pieces.{ConsumesUpTo}
use Rattle.key_names.specs.declared.faults.FaultKind.TheVariants.{TooLong}
use Rattle.key_names.specs.declared.faults.ScriptFault.{ScriptFault}
use Rattle.key_names.specs.Transcripts.IsTranscript.{HasLines}
use Rattle.key_names.specs.Transcripts.SeenLine.{SeenLine}
use Rattle.key_names.specs.Texts.ScriptFaults.{first_fault, front, kind_number}
use Rattle.key_names.specs.Texts.ScriptGrammar.{Script, IsScript}
use Rattle.key_names.specs.Texts.Spelling.{lined, spaced}
use Rattle.key_names.specs.Texts.TranscriptGrammar.{IsTranscriptText}
use Rattle.transcript_text.specs.ReadTexts.{HasMoreLines}
use Rattle.tool_ends.specs.declared.pair.NotRead.{NotRead}
use Rattle.tool_ends.specs.declared.pair.NotRead.TheVariants.{ReadFault, Refused, NoTranscript, TooManyLines, NoMemory}
use Rattle.tool_ends.specs.declared.status.Status.{Status}
use Rattle.tool_ends.specs.declared.status.Status.TheVariants.{ReadFault as Unread, Refused as IsRefused, No as IsNo}
use Rattle.tool_ends.specs.Reads.{WasRead, WritesEnds}

-- the most bytes that a script may have
abbrev pub most_script : ℕ
most_script = 16777216

-- the most bytes that a script and a transcript may have together
abbrev pub most_input : ℕ
most_input = 100663296

-- the most lines that a script's transcript can have: one for each event, and the last line of each caller
abbrev pub most_script_lines : ℕ
most_script_lines = 65600

-- the part of an input after its script
abbrev pub following : List ℕ → List ℕ
following input = drop (length (front input)) input

pub record IsPair (input : List ℕ) (script : Script) (t : List (List SeenLine)) : Type 0 where
  pub short : length input ≤ most_input
  pub is_script : IsScript script (front input)
  pub text : IsTranscriptText (following input) t

-- the first fault of an input, if it has one: the input is too long, or its script has a fault
abbrev pub pair_fault : List ℕ → Option ScriptFault
pair_fault input =
    if nat_lt most_input (length input) then Some (record { line = 0; kind = TooLong }) else first_fault (front input)

-- `text` is not the text of any transcript
abbrev pub IsNoTranscript : List ℕ → Type 0
IsNoTranscript text = (lines : List (List SeenLine)) → IsTranscriptText text lines → ⊥

-- `text` is the text of a transcript, but the transcript's lines are not those that `script` requires
pub record LacksLines (script : Script) (text : List ℕ) : Type 0 where
  pub lines : List (List SeenLine)
  pub is_text : IsTranscriptText text lines
  pub fails : HasLines script lines → ⊥

-- the text after the input's script fails the clause `number`. It fails clause 1 if it is not the text of a transcript.
-- It fails clause 2 if it is, but the transcript's lines are not those that the script requires
pub record FailsAsText (input : List ℕ) (number : ℕ) : Type 0 where
  pub short : length input ≤ most_input
  pub script : Script
  pub is_script : IsScript script (front input)
  pub clause : (number ≡ 1) × IsNoTranscript (following input) ⊎ (number ≡ 2) × LacksLines script (following input)

-- `text` is not read as a transcript, for this reason
abbrev pub IsNoText : List ℕ → NotRead → Type 0
IsNoText text ReadFault = ⊥
IsNoText text (Refused fault) = ⊥
IsNoText text NoTranscript = IsNoTranscript text
IsNoText text TooManyLines = HasMoreLines most_script_lines text
IsNoText text NoMemory = ⊤

-- `input` is not read as a script, for this reason
abbrev pub IsNoScript : List ℕ → NotRead → Type 0
IsNoScript input ReadFault = ⊥
IsNoScript input (Refused fault) = first_fault input ≡ Some fault
IsNoScript input NoTranscript = ⊥
IsNoScript input TooManyLines = ⊥
IsNoScript input NoMemory = ⊤

-- `input` is not read as a script with a transcript after it, for this reason
abbrev pub IsNoPair : List ℕ → NotRead → Type 0
IsNoPair input ReadFault = ⊥
IsNoPair input (Refused fault) = pair_fault input ≡ Some fault
IsNoPair input NoTranscript = FailsAsText input 1
IsNoPair input TooManyLines = FailsAsText input 2 × HasMoreLines most_script_lines (following input)
IsNoPair input NoMemory = ⊤

-- ---- what a source gave

-- the source gave the text of `script`
abbrev pub GivesScript : Option (List ℕ) → Option (List ℕ) → Script → Type 0
GivesScript left left_after script =
    (input : List ℕ) × WasRead most_script left left_after input × IsScript script input

-- the source gave the texts of `script` and then of the transcript `t`
abbrev pub GivesPair : Option (List ℕ) → Option (List ℕ) → Script → List (List SeenLine) → Type 0
GivesPair left left_after script t = (input : List ℕ) × WasRead most_input left left_after input × IsPair input script t

-- the source gave an input, and `Is` holds for this input and the reason why it was refused. Or the source failed or
-- memory ran out, after at most `most` + 1 bytes were taken
abbrev pub GivesNone : ℕ → (List ℕ → NotRead → Type 0) → Option (List ℕ) → Option (List ℕ) → NotRead → Type 0
GivesNone most Is left left_after ReadFault = ConsumesUpTo (most + 1) left left_after
GivesNone most Is left left_after (Refused fault) =
    (input : List ℕ) × WasRead most left left_after input × Is input (Refused fault)
GivesNone most Is left left_after NoTranscript =
    (input : List ℕ) × WasRead most left left_after input × Is input NoTranscript
GivesNone most Is left left_after TooManyLines =
    (input : List ℕ) × WasRead most left left_after input × Is input TooManyLines
GivesNone most Is left left_after NoMemory = ConsumesUpTo (most + 1) left left_after

abbrev pub GivesNoScript : Option (List ℕ) → Option (List ℕ) → NotRead → Type 0
GivesNoScript = GivesNone most_script IsNoScript

abbrev pub GivesNoPair : Option (List ℕ) → Option (List ℕ) → NotRead → Type 0
GivesNoPair = GivesNone most_input IsNoPair

-- ---- the answers to inputs that are not read

-- the output line for a fault, with the number of the faulty line and the number of the fault's kind
abbrev pub refusal_line : ScriptFault → List ℕ
refusal_line fault =
    lined (spaced (codes "refused" ∷ decimal fault.line ∷ decimal (kind_number fault.kind) ∷ []) ∷ [])

-- the output line for a failed clause, with the clause's number
abbrev pub no_line : ℕ → List ℕ
no_line number = lined (spaced (codes "no" ∷ decimal number ∷ []) ∷ [])

-- the output is the line of the input's first fault
pub record TellsFault (input output : List ℕ) : Type 0 where
  pub fault : ScriptFault
  pub first : pair_fault input ≡ Some fault
  pub line : output ≡ refusal_line fault

-- `status` and `output` are right for an input that was not read for this reason
abbrev pub RefusalOf : NotRead → Status → List ℕ → Type 0
RefusalOf ReadFault status output = ⊥
RefusalOf (Refused fault) status output = (status ≡ IsRefused) × (output ≡ refusal_line fault)
RefusalOf NoTranscript status output = (status ≡ IsNo) × (output ≡ no_line 1)
RefusalOf TooManyLines status output = (status ≡ IsNo) × (output ≡ no_line 2)
RefusalOf NoMemory status output = ⊥

-- a command that refused an input for this reason ended with this status, and changed the sink's content from `held` to
-- `held_after`
abbrev pub RefusalEnds : NotRead → Status → Option (List ℕ) → Option (List ℕ) → Type 0
RefusalEnds ReadFault status held held_after = (status ≡ Unread) × Keeps held held_after
RefusalEnds (Refused fault) status held held_after = WritesEnds (RefusalOf (Refused fault)) status held held_after
RefusalEnds NoTranscript status held held_after = WritesEnds (RefusalOf NoTranscript) status held held_after
RefusalEnds TooManyLines status held held_after = WritesEnds (RefusalOf TooManyLines) status held held_after
RefusalEnds NoMemory status held held_after = WritesEnds (RefusalOf NoMemory) status held held_after
