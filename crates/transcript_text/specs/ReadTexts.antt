-- The possible results of reading a text as a transcript.
use Rattle.std.specs.Prelude.{ℕ, ◌≡◌, ◌<◌, ◌≤◌, ⊤, List, [], ◌∷◌, ◌++◌, length, Result, Ok, Err}
use Rattle.key_names.specs.Transcripts.SeenLine.{SeenLine}
use Rattle.key_names.specs.Texts.TranscriptGrammar.{all_lines, line_text, LineFits, IsTranscriptText, IsFirstFault}
use Rattle.transcript_text.specs.declared.parsing.error.TextError.{TextError}
use Rattle.transcript_text.specs.declared.parsing.error.TextError.TheVariants.{Fault, NoMemory, TooManyLines}
use Rattle.transcript_text.specs.declared.parsing.line.ReadLine.{ReadLine}
use Rattle.transcript_text.specs.Grouping.{Groups}
use Rattle.transcript_text.specs.ReadLines.{IsRead}

-- `text` is that of a transcript with more than `most` lines
pub record HasMoreLines (most : ℕ) (text : List ℕ) : Type 0 where
  pub callers : List (List SeenLine)
  pub is_text : IsTranscriptText text callers
  pub many : most < length (all_lines callers)

-- the result of reading `text` is right. It is the transcript with this text, which has at most `most` lines; or the
-- first faulty line; or the error that the transcript has more lines; or the error that memory ran out
abbrev pub Answers : ℕ → List ℕ → Result (List (List SeenLine)) TextError → Type 0
Answers most text (Ok callers) = IsTranscriptText text callers × (length (all_lines callers) ≤ most)
Answers most text (Err (Fault line)) = IsFirstFault text line
Answers most text (Err TooManyLines) = HasMoreLines most text
Answers most text (Err NoMemory) = ⊤

-- the result is the transcript `callers`, or memory ran out
abbrev pub IsReadAs : List (List SeenLine) → Result (List (List SeenLine)) TextError → Type 0
IsReadAs callers (Ok found) = found ≡ callers
IsReadAs callers (Err (Fault line)) = ⊥
IsReadAs callers (Err TooManyLines) = ⊥
IsReadAs callers (Err NoMemory) = ⊤

-- `text` spells a line of the current caller or of a later one. With this line added, the finished callers change from
-- `old` to `new`, and the current caller's lines from `current` to `next`.
pub record AddsLine (text : List ℕ) (old new : List (List SeenLine)) (current next : List SeenLine) : Type 0 where
  pub line : SeenLine
  pub fits : LineFits line
  pub spelt : text ≡ line_text line
  pub later : length old ≤ line.caller
  pub below : line.caller < 64
  pub len : length new ≡ line.caller
  pub some : 0 < length next
  pub groups : (lines : List SeenLine) → Groups old current lines → Groups new next (lines ++ line ∷ [])

-- `text` spells no line of a caller from `least` to 63
abbrev pub IsNoLine : List ℕ → ℕ → Type 0
IsNoLine text least = (line : SeenLine) → LineFits line → least ≤ line.caller → line.caller < 64
    → text ≡ line_text line → ⊥

-- `text` spells the line `read`, with the data that the last field of `read` spells; the line's caller is from `least`
-- to 63
pub record IsReadFrom (text : List ℕ) (least : ℕ) (read : ReadLine) : Type 0 where
  pub is : IsRead text read
  pub later : least ≤ read.caller
  pub below : read.caller < 64

-- `text` spells a line of the caller `caller`, which is at least `least`
pub record IsPassed (text : List ℕ) (least caller : ℕ) : Type 0 where
  pub line : SeenLine
  pub fits : LineFits line
  pub spelt : text ≡ line_text line
  pub own : line.caller ≡ caller
  pub later : least ≤ caller
  pub below : caller < 64
