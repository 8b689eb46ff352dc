-- How far a script's text was read, and which script the text becomes with more lines.
use Rattle.std.specs.Prelude.{ℕ, ◌≡◌, ◌⊎◌, ◌+◌, ◌<◌, ◌≤◌, ⊤, List, [], ◌∷◌, ◌++◌, All, Result, Ok, Err, ◌==◌, false, length}
use Rattle.std.specs.Borrow.{Bor}
use Rattle.key_names.specs.declared.faults.ScriptFault.{ScriptFault}
use Rattle.key_names.specs.Texts.ScriptFaults.{◌>>=◌, at_line, following, cpus_in, nothing_after, parts, script_from, script_of_draft, script_of_lines, start_in}
use Rattle.key_names.specs.Texts.ScriptGrammar.{Script}
use Rattle.event_script.specs.Drafts.{draft_as}
use Rattle.event_script.specs.declared.reader.ScriptReader.{ScriptReader}
use Rattle.event_script.specs.declared.script_error.ScriptError.{ScriptError}
use Rattle.event_script.specs.declared.script_error.ScriptError.TheVariants.{Fault, NoMemory}
use Rattle.event_script.specs.declared.whole.stage.ScriptStage.{ScriptStage}
use Rattle.event_script.specs.declared.whole.stage.ScriptStage.TheVariants.{Version, Cpus, Start, Lines, Ended, Faulty}

-- the text is empty or ends with a line feed
abbrev pub IsWhole : List ℕ → Type 0
IsWhole text = (text ≡ []) ⊎ ((front : List ℕ) × (text ≡ front ++ 10 ∷ []))

-- the script of a text, or its first fault, if the text was read up to the given stage and the given lines follow
abbrev pub goes : ScriptStage → List (List ℕ) → Result Script ScriptFault
goes Version lines = script_of_lines lines
goes (Cpus version) lines = do
  cpus ← at_line 2 (cpus_in version lines)
  start ← at_line 3 (start_in version cpus (following lines))
  script_from start 4 (following (following lines))
goes (Start head) lines = do
  start ← at_line 3 (start_in head.version head.cpus lines)
  script_from start 4 (following lines)
goes (Lines draft number) lines = script_from (draft_as draft) number lines
goes (Ended draft number) lines = nothing_after number lines >>= λ none. Ok (script_of_draft (draft_as draft))
goes (Faulty fault line) lines = Err fault

-- the number of the line that comes next at the given stage; 0 after a fault
abbrev pub number_of : ScriptStage → ℕ
number_of Version = 1
number_of (Cpus version) = 2
number_of (Start head) = 3
number_of (Lines draft number) = number
number_of (Ended draft number) = number
number_of (Faulty fault line) = 0

-- whatever follows, reading `text` from `stage` gives the same result as reading `rest` from `next`
pub record LeadsTo (stage : ScriptStage) (text : List ℕ) (next : ScriptStage) (rest : List ℕ) : Type 0 where
  pub same : (later : List ℕ) → goes stage (parts 10 (text ++ later)) ≡ goes next (parts 10 (rest ++ later))
  pub whole : IsWhole rest
  pub number : number_of next + length rest ≤ number_of stage + length text

-- whatever follows the text, reading the text from the given stage gives `fault`. If memory ran out, nothing is claimed
abbrev pub FailsFrom : ScriptStage → List ℕ → ScriptError → Type 0
FailsFrom stage text (Fault fault) = (later : List ℕ) → goes stage (parts 10 (text ++ later)) ≡ Err fault
FailsFrom stage text NoMemory = ⊤

-- the given result is right if the first lines of `text` are read from `stage`. The result is the next stage and the
-- remaining text, which is shorter than `text`; or it is the first fault, or memory ran out
abbrev pub Leads : ScriptStage → List ℕ → Result (ScriptStage × Bor (List ℕ)) ScriptError → Type 0
Leads stage text (Ok both) = LeadsTo stage text both.0 both.1.now × (length both.1.now < length text)
Leads stage text (Err error) = FailsFrom stage text error

-- the reader has read `text`, except the incomplete line that the reader keeps and the bytes `unread` after that line
pub record IsAfter (text : List ℕ) (reader : ScriptReader) (unread : List ℕ) : Type 0 where
  pub same : (later : List ℕ) → script_of_lines (parts 10 (text ++ later))
      ≡ goes reader.stage (parts 10 (reader.rest.items ++ (unread ++ later)))
  pub clean : All (λ b. (b == 10) ≡ false) reader.rest.items
  pub number : number_of reader.stage + length reader.rest.items + length unread ≤ length text + 1

-- the reader was fed `text`. If `text` exceeds 16,777,216 bytes, only the reader's count of bytes is constrained
pub record HasFed (text : List ℕ) (reader : ScriptReader) : Type 0 where
  pub len : length text ≤ 16777216 → reader.len ≡ length text
  pub long : 16777216 < length text → 16777216 < reader.len
  pub read : length text ≤ 16777216 → IsAfter text reader []
