-- A line that was read with its data still as text, and the five fields of a line.
use Rattle.std.specs.Prelude.{ℕ, ◌≡◌, ◌<◌, ◌≤◌, ◌^◌, true, List, [], ◌∷◌, ◌++◌, length, codes, decimal}
use Rattle.key_names.specs.Transcripts.SeenLine.{SeenLine, Shown}
use Rattle.key_names.specs.Texts.Spelling.{spaced}
use Rattle.key_names.specs.Texts.TranscriptGrammar.{line_text, shown_text, LineFits, ShownFits}
use Rattle.transcript_text.specs.declared.parsing.line.LineNumbers.{LineNumbers}
use Rattle.transcript_text.specs.declared.parsing.line.ReadLine.{ReadLine}
use Rattle.transcript_text.specs.Reading.{lacks}

abbrev pub numbers_text : LineNumbers → List ℕ
numbers_text numbers = decimal numbers.caller ++ codes "." ++ decimal numbers.event

pub record NumbersFit (numbers : LineNumbers) : Type 0 where
  pub caller : numbers.caller < 2 ^ 32
  pub event : numbers.event < 2 ^ 32

-- `line` is these five fields with spaces between them, and only the last field may contain spaces
pub record IsSplit (line numbers word answer steps shown : List ℕ) : Type 0 where
  pub whole : line ≡ spaced (numbers ∷ word ∷ answer ∷ steps ∷ shown ∷ [])
  pub first : lacks 32 numbers ≡ true
  pub second : lacks 32 word ≡ true
  pub third : lacks 32 answer ≡ true
  pub fourth : lacks 32 steps ≡ true

-- the line `read` with the data `shown`
abbrev pub seen_read : ReadLine → Shown → SeenLine
seen_read read shown = record {
  caller = read.caller;
  event = read.event;
  word = read.word;
  answer = read.answer;
  steps = read.steps.now;
  shown = shown;
}

-- if the last field of `read` spells some data, the line with these data fits a transcript
abbrev pub FitsShowing : ReadLine → Type 0
FitsShowing read = (shown : Shown) → ShownFits read.word shown → read.shown.now ≡ shown_text shown
    → LineFits (seen_read read shown)

-- `text` spells the line `read`, with the data that the last field of `read` spells, and spells no other line
pub record IsRead (text : List ℕ) (read : ReadLine) : Type 0 where
  pub fits : FitsShowing read
  pub spelt : (shown : Shown) → read.shown.now ≡ shown_text shown → text ≡ line_text (seen_read read shown)
  pub only : (line : SeenLine) → LineFits line → text ≡ line_text line
      → (line ≡ seen_read read line.shown) × (read.shown.now ≡ shown_text line.shown)
  pub short : length read.shown.now ≤ length text

-- the lines `new` are the lines `old` and then `read`, with data that the last field of `read` spells
pub record PushesRead (read : ReadLine) (old new : List SeenLine) : Type 0 where
  pub shown : Shown
  pub fits : ShownFits read.word shown
  pub spelt : read.shown.now ≡ shown_text shown
  pub pushed : new ≡ old ++ seen_read read shown ∷ []
