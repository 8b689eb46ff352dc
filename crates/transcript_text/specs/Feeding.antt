-- How far the text of a transcript was read, and which lines were read.
use Rattle.std.specs.Prelude.{ℕ, ◌≡◌, ◌+◌, ◌<◌, ◌≤◌, ⊤, true, List, [], ◌∷◌, ◌++◌, codes, length, map, vec_len}
use Rattle.key_names.specs.Transcripts.SeenLine.{SeenLine}
use Rattle.key_names.specs.Texts.Spelling.{lined}
use Rattle.key_names.specs.Texts.TranscriptGrammar.{line_text, LineFits, IsFirstFault}
use Rattle.transcript_text.specs.Grouping.{Groups, seen_callers}
use Rattle.transcript_text.specs.Reading.{lacks}
use Rattle.transcript_text.specs.declared.parsing.reader.TranscriptReader.{TranscriptReader}
use Rattle.transcript_text.specs.declared.parsing.so_far.SoFar.{SoFar}
use Rattle.transcript_text.specs.declared.parsing.so_far.TranscriptStage.{TranscriptStage}
use Rattle.transcript_text.specs.declared.parsing.so_far.TranscriptStage.TheVariants.{Head, Lines, Ended, Faulty}

-- ---- the lines of a text that was read in part

-- the caller numbers of the lines never fall, and each is at least `least` and below 64; each line fits a transcript
abbrev pub Rising : ℕ → List SeenLine → Type 0
Rising least [] = ⊤
Rising least (line ∷ lines) = (least ≤ line.caller) × (line.caller < 64) × LineFits line × Rising line.caller lines

abbrev pub last_caller : ℕ → List SeenLine → ℕ
last_caller caller [] = caller
last_caller caller (line ∷ lines) = last_caller line.caller lines

abbrev pub head_line : List ℕ
head_line = codes "rngtranscript 1"

abbrev pub line_end : List ℕ
line_end = codes "end"

-- the texts of the transcript's first line and of `lines`
abbrev pub front_of : List SeenLine → List (List ℕ)
front_of lines = head_line ∷ map line_text lines

-- `text` is the transcript's first line, the lines that were read, and then `rest`. `done` and `current` have the read
-- lines, grouped by caller.
pub record ReadSoFar (text : List ℕ) (done : List (List SeenLine)) (current : List SeenLine) (rest : List ℕ)
    (number : ℕ) : Type 0 where
  pub lines : List SeenLine
  pub groups : Groups done current lines
  pub rising : Rising 0 lines
  pub last : last_caller 0 lines ≡ length done
  pub parts : text ≡ lined (front_of lines) ++ rest
  pub count : number ≡ length lines + 1
  pub begun : current ≡ [] → lines ≡ []

-- all lines of `text` before `rest` were read, whether they were kept or not; the last line that was read is of caller
-- `least`
pub record CountedSoFar (text : List ℕ) (least : ℕ) (rest : List ℕ) (number : ℕ) : Type 0 where
  pub done : List (List SeenLine)
  pub current : List SeenLine
  pub read : ReadSoFar text done current rest number
  pub many : length done ≡ least

-- ---- the state of a reader

-- the state `s` before any line was read
pub record IsUnread (s : SoFar) : Type 0 where
  pub done : s.done.items ≡ []
  pub current : s.current.lines ≡ []
  pub lines : s.lines ≡ 0

-- the lines of `text` before `rest` were read and counted; they are all kept, unless their number exceeds the limit
-- `s.most`
pub record HasEmitted (s : SoFar) (text rest : List ℕ) : Type 0 where
  pub counted : CountedSoFar text (vec_len s.done) rest (s.lines + 1)
  pub kept : s.lines ≤ s.most → ReadSoFar text (seen_callers s.done.items) s.current.lines rest (s.lines + 1)

-- the state `s` with one more line counted
abbrev pub with_line : SoFar → SoFar
with_line s = record s { lines = s.lines + 1 }

-- the stage is right: `text` is the lines that were read, and then `rest`; or `text` is faulty, and the stage has the
-- number of its first faulty line, whatever text follows
abbrev pub ConformsAs : TranscriptStage → SoFar → List ℕ → List ℕ → Type 0
ConformsAs Head s text rest = IsUnread s × (text ≡ rest)
ConformsAs Lines s text rest = HasEmitted s text rest
ConformsAs Ended s text rest = HasEmitted s text (line_end ++ 10 ∷ rest)
ConformsAs (Faulty line) s text rest = (more : List ℕ) → IsFirstFault (text ++ more) line

abbrev pub ConformsAt : SoFar → List ℕ → List ℕ → Type 0
ConformsAt s text rest = ConformsAs s.stage s text rest

-- the reader was fed `text` except for `unread`, the end of `text`
pub record IsAfter (text : List ℕ) (reader : TranscriptReader) (unread : List ℕ) : Type 0 where
  pub conforms : ConformsAt reader.so_far text (reader.rest.items ++ unread)
  pub clean : lacks 10 reader.rest.items ≡ true
  pub bound : reader.so_far.lines + length reader.rest.items + length unread ≤ length text

-- the reader was fed this text
abbrev pub HasFed : List ℕ → TranscriptReader → Type 0
HasFed text reader = IsAfter text reader []

-- the most lines of callers that the reader keeps
abbrev pub most_lines : TranscriptReader → ℕ
most_lines reader = reader.so_far.most
