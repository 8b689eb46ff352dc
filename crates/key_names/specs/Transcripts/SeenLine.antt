-- A line of a transcript as contracts describe it, with its steps and its bytes written out.
use Rattle.std.specs.Prelude.{ℕ, List, [], ◌∷◌, take, drop, map}
use Rattle.std.specs.List.{flat_map}
use Rattle.key_names.specs.declared.events.Answer.{Answer}
use Rattle.key_names.specs.declared.events.Word.{Word}
use Rattle.key_names.specs.declared.lines.Data.{Data}
use Rattle.key_names.specs.declared.lines.Data.TheVariants.{None as NoData, Bytes, Count}
use Rattle.key_names.specs.declared.lines.Line.{Line}
use Rattle.key_names.specs.declared.names.Step.{Step}

-- the data that a line shows after its steps
pub data Shown : Type 0 where
  no_data : Shown
  bytes : List ℕ → Shown
  count : ℕ → Shown

pub record SeenLine : Type 0 where
  pub caller : ℕ
  pub event : ℕ
  pub word : Word
  pub answer : Answer
  pub steps : List Step
  pub shown : Shown

-- the data of a line, given the bytes kept for its caller
abbrev pub shown_in : List ℕ → Data → Shown
shown_in kept NoData = no_data
shown_in kept (Bytes len start) = bytes (take len (drop start kept))
shown_in kept (Count n) = count n

-- the steps of a line, given the steps kept for its caller
abbrev pub steps_in : List Step → Line → List Step
steps_in kept line = take line.step_count (drop line.first_step kept)

-- a line, given the bytes and the steps kept for its caller
abbrev pub seen_line : List ℕ → List Step → Line → SeenLine
seen_line kept steps line = record {
  caller = line.caller;
  event = line.event;
  word = line.word;
  answer = line.answer;
  steps = steps_in steps line;
  shown = shown_in kept line.shown;
}

abbrev pub seen_lines : List ℕ → List Step → List Line → List SeenLine
seen_lines kept steps lines = map (seen_line kept steps) lines

-- the bytes in the data of a line, and no bytes if the data are of another kind
abbrev pub bytes_in : Shown → List ℕ
bytes_in (bytes shown) = shown
bytes_in _ = []

-- the bytes that all lines show, one line after another
abbrev pub bytes_shown : List SeenLine → List ℕ
bytes_shown lines = flat_map (λ line. bytes_in line.shown) lines

-- the data of a line that shows these bytes: no data if there are no bytes
abbrev pub bytes_or_none : List ℕ → Shown
bytes_or_none [] = no_data
bytes_or_none (b ∷ bs) = bytes (b ∷ bs)
