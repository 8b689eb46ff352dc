-- What is noted when a line is compared with the answer and data that its steps give.
use Rattle.std.specs.Prelude.{ℕ, ◌≡◌, ◌↔◌, IsTrue, Some, List, slice_get}
use Rattle.key_names.specs.Lanes.Book.{list_at}
use Rattle.key_names.specs.Transcripts.SeenLine.{SeenLine}
use Rattle.judge_log.specs.declared.said.MadeLine.{MadeLine}
use Rattle.serial_replay.specs.Agreement.{SameAnswer, SameShown}
use Rattle.transcript_check.specs.declared.compare.Same.{Same}

-- if the caller has a line for the event, the part `Part` of this line (its answer or its data) agrees with `said`
abbrev pub SameThere : (SeenLine → MadeLine → Type 0) → List (List SeenLine) → ℕ → ℕ → MadeLine → Type 0
SameThere Part t caller event said =
    (line : SeenLine) → slice_get (list_at t caller) event ≡ Some line → Part line said

pub record IsCompared (t : List (List SeenLine)) (caller event : ℕ) (said : MadeLine) (same : Same) : Type 0 where
  pub answer : IsTrue same.answer ↔ SameThere SameAnswer t caller event said
  pub shown : IsTrue same.shown ↔ SameThere SameShown t caller event said
