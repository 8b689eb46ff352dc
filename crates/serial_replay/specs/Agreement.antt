-- Whether lines agree with the notes of the answers and data that were made from their steps.
use Rattle.std.specs.Prelude.{ℕ, ◌≡◌, ◌<◌, Some, List, length, slice_get}
use Rattle.std.specs.List.{AllByRecursion}
use Rattle.key_names.specs.Lanes.Book.{list_at}
use Rattle.key_names.specs.Transcripts.SeenLine.{SeenLine}
use Rattle.judge_log.specs.declared.said.MadeLine.{MadeLine}
use Rattle.judge_log.specs.Said.{shown_by}

-- `notes` has a note at the number of the line's event, and the line agrees with this note (`Same`)
pub record Agrees {Noted : Type 0} (Same : SeenLine → Noted → Type 0) (notes : List Noted)
    (line : SeenLine) : Type 0 where
  pub one : Noted
  pub is : slice_get notes line.event ≡ Some one
  pub same : Same line one

abbrev pub SameAnswer : SeenLine → MadeLine → Type 0
SameAnswer line one = line.answer ≡ one.answer

abbrev pub SameShown : SeenLine → MadeLine → Type 0
SameShown line one = line.shown ≡ shown_by one.shows

-- each line of each caller in `t` agrees with its note in the caller's notes
abbrev pub AllAgree : {Noted : Type 0} → (SeenLine → Noted → Type 0) → List (List Noted) → List (List SeenLine) → Type 0
AllAgree Same notes t = (c : ℕ) → c < length t → AllByRecursion (Agrees Same (list_at notes c)) (list_at t c)
