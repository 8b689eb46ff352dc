-- A text whose head is incomplete, or that has no room for the line `end`.
use Rattle.std.specs.Prelude.{◌≡◌, ◌⊎◌, ℕ, ◌+◌, ◌<◌, ⊤, List, ◌++◌, length}
use Rattle.key_names.specs.Texts.ScriptFaults.{Draft, parts, script_of_lines}
use Rattle.event_script.specs.Feeding.{goes}
use Rattle.event_script.specs.Progress.{GoesOnFrom}
use Rattle.event_script.specs.declared.whole.stage.ScriptStage.{ScriptStage}
use Rattle.event_script.specs.declared.whole.stage.ScriptStage.TheVariants.{Version, Cpus, Start, Lines, Ended, Faulty}

-- at the given stage, a line of the script's head comes next
abbrev pub IsHead : ScriptStage → Type 0
IsHead Version = ⊤
IsHead (Cpus version) = ⊤
IsHead (Start head) = ⊤
IsHead (Lines draft number) = ⊥
IsHead (Ended draft number) = ⊥
IsHead (Faulty fault line) = ⊥

-- the text has only lines of a script's head, and a further line of the head comes next
pub record IsBeforeEvents (text : List ℕ) : Type 0 where
  pub stage : ScriptStage
  pub is_head : IsHead stage
  pub goes_on : (later : List ℕ) → script_of_lines (parts 10 (text ++ later)) ≡ goes stage (parts 10 later)

-- events may follow the text, but the text has no room for the line `end`
pub record IsFull (text : List ℕ) : Type 0 where
  pub draft : Draft
  pub number : ℕ
  pub goes_on : GoesOnFrom text draft number
  pub full : 16777216 < length text + 4

-- the head is incomplete, or the line `end` no longer fits
abbrev pub IsWaiting : List ℕ → Type 0
IsWaiting text = IsBeforeEvents text ⊎ IsFull text
