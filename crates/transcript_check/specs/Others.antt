-- Whether a line of a transcript differs from the answer or data that its steps give.
use Rattle.std.specs.Prelude.{ℕ, ◌≡◌, ◌≢◌, Some, List, slice_get, map}
use Rattle.key_names.specs.Lanes.Book.{list_at}
use Rattle.key_names.specs.Transcripts.IsTranscript.{IsTranscript}
use Rattle.key_names.specs.Transcripts.SameSteps.{SameSteps, bare}
use Rattle.key_names.specs.Transcripts.SeenLine.{SeenLine}
use Rattle.key_names.specs.Texts.ScriptGrammar.{Script}
use Rattle.judge_log.specs.declared.said.MadeLine.{MadeLine}
use Rattle.judge_log.specs.Said.{itself}
use Rattle.serial_replay.specs.declared.remake.Made.{Made}
use Rattle.serial_replay.specs.Remade.{AllMade, made_by}

-- the line differs from the answer or data in `notes` at the number of the line's event
pub record IsOther (IsSaid : SeenLine → MadeLine → Type 0) (notes : List MadeLine) (line : SeenLine) : Type 0 where
  pub one : MadeLine
  pub said : slice_get notes line.event ≡ Some one
  pub other : IsSaid line one → ⊥

-- `lines`, the lines of one caller, have a line with this number, and this line differs from the answer or data in
-- `notes` for it
pub record IsOtherAt (IsSaid : SeenLine → MadeLine → Type 0) (notes : List MadeLine) (lines : List SeenLine) (number : ℕ) : Type 0 where
  pub line : SeenLine
  pub there : slice_get lines number ≡ Some line
  pub is : IsOther IsSaid notes line

-- in `t`, the line with this number among this caller's lines differs from the answer or data that the steps of `t`
-- give
pub record HasOther (IsSaid : SeenLine → MadeLine → Type 0) (script : Script) (t : List (List SeenLine))
    (caller number : ℕ) : Type 0 where
  pub made : Made MadeLine
  pub says : AllMade itself script (map (map bare) t) made
  pub other : IsOtherAt IsSaid (list_at (made_by made) caller) (list_at t caller) number

-- each lawful transcript with the steps of `t` differs from `t` in this caller's line with this number
abbrev pub IsReplacedIn : Script → List (List SeenLine) → ℕ → ℕ → Type 0
IsReplacedIn script t caller number = (u : List (List SeenLine)) → SameSteps t u → IsTranscript script u →
    slice_get (list_at t caller) number ≢ slice_get (list_at u caller) number
