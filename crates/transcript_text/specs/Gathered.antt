-- The lines of one caller while they are added, with the list of their bytes and the list of their steps.
use Rattle.std.specs.Prelude.{ℕ, ◌+◌, ◌<◌, ◌≤◌, ⊤, List, [], ◌∷◌, length}
use Rattle.std.specs.List.{AllByRecursion}
use Rattle.key_names.specs.declared.lines.Data.{Data}
use Rattle.key_names.specs.declared.lines.Data.TheVariants.{None as NoData, Bytes, Count}
use Rattle.key_names.specs.declared.lines.Line.{Line}
use Rattle.key_names.specs.declared.names.Step.{Step}
use Rattle.key_names.specs.Transcripts.SeenLine.{SeenLine, seen_lines}
use Rattle.key_names.specs.Texts.TranscriptGrammar.{LineFits}
use Rattle.transcript_text.specs.declared.view.Shown.{Shown}
use Rattle.transcript_text.specs.declared.view.Shown.TheVariants.{None as ShowsNone, Bytes as ShowsBytes, Count as ShowsCount}
use Rattle.transcript_text.specs.declared.view.LineView.{LineView}

-- the lines of a caller, and all bytes and all steps in the order in which they were added. The other fields are the
-- numbers of lines, bytes and steps for which there is still room
pub record Gathered : Type 0 where
  pub lines : List SeenLine
  pub bytes : List ℕ
  pub steps : List Step
  pub line_room : ℕ
  pub byte_room : ℕ
  pub step_room : ℕ

-- if a line's data are bytes, there is at least one byte, and all bytes are among the first `n` kept bytes
abbrev pub IsWithin : ℕ → Data → Type 0
IsWithin n (Bytes len start) = (0 < len) × (start + len ≤ n)
IsWithin n _ = ⊤

-- the bytes and steps of `line` are among the first `bytes` kept bytes and the first `steps` kept steps
pub record LineWithin (bytes steps : ℕ) (line : Line) : Type 0 where
  pub shown : IsWithin bytes line.shown
  pub steps' : line.first_step + line.step_count ≤ steps

-- Each of `lines` refers to its bytes and steps by their places in the lists `bytes` and `steps`. With the bytes and
-- steps found there, each line fits a transcript.
pub record IsKept (bytes : List ℕ) (steps : List Step) (lines : List Line) : Type 0 where
  pub within : AllByRecursion (LineWithin (length bytes) (length steps)) lines
  pub fits : AllByRecursion LineFits (seen_lines bytes steps lines)

abbrev pub bytes_from : ℕ → List ℕ → Data
bytes_from start [] = NoData
bytes_from start (b ∷ bs) = Bytes (length (b ∷ bs)) start

-- the stored form of a line's data, if the line's bytes are kept from place `start` on
abbrev pub data_from : ℕ → Shown → Data
data_from start ShowsNone = NoData
data_from start (ShowsBytes shown) = bytes_from start shown.now
data_from start (ShowsCount n) = Count n

-- the stored form of `line`, if its steps are kept from place `steps` on, and its bytes from place `bytes` on
abbrev pub kept_line : ℕ → ℕ → LineView → Line
kept_line steps bytes line = record {
  caller = line.caller;
  event = line.event;
  word = line.word;
  answer = line.answer;
  step_count = length line.steps.now;
  first_step = steps;
  shown = data_from bytes line.shown;
}
