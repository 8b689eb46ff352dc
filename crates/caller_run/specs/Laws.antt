-- The law of a script: the calls of its callers, from the start of a table to the table's end, make a lawful transcript
-- of the script.
use Rattle.std.specs.Prelude.{◌≡◌, ◌⊎◌, ℕ, ◌+◌, ◌<◌, ◌≤◌, List, [], ◌∷◌, map, length}
use Rattle.std.specs.List.{AllByRecursion, sum_by}
use Rattle.key_names.specs.declared.events.Event.{Event}
use Rattle.key_names.specs.declared.names.LaneId.{LaneId}
use Rattle.key_names.specs.Callers.Calls.{first_setting}
use Rattle.key_names.specs.Texts.ScriptGrammar.{Script, WellFormed}
use Rattle.key_names.specs.Transcripts.SeenLine.{SeenLine}
use Rattle.key_names.specs.Callers.Meaning.{CallMeaning}
use Rattle.key_names.specs.Transcripts.IsTranscript.{EachCaller, all_marks, lane_marks, state_lists, IsTranscriptBy}
use Rattle.lane_table.specs.declared.view.View.{View}
use Rattle.lane_table.specs.LaneNumbers.{index_of}
use Rattle.lane_table.specs.Meaning.{replay}
use Rattle.lane_table.specs.WorldRule.{at, known_of}
use Rattle.lane_table.specs.Steps.{Grows}
use Rattle.lane_table.specs.Calls.{Ended}
use Rattle.lane_table.specs.Advances.{floor}
use Rattle.lane_table.specs.BookLists.{book_of}
use Rattle.caller_run.specs.Standing.{Start, RunEnded}

-- one caller of a run: its start, its pass's view after its last visit, its lines, and the callers that it forked
pub record Run : Type 0 where
  pub begun : Start
  pub end : View
  pub lines : List SeenLine
  pub kids : List Start

-- the caller with this number made these events and ended. At the end its pass has seen a part of the base's list. The
-- generation after a replay of this part is at least each generation that the pass saw
pub record HasRun (caller : ℕ) (events : List Event) (r : Run) : Type 0 where
  pub own : r.begun.caller ≡ caller
  pub ended : RunEnded r.begun events r.end r.lines r.kids
  pub seen : floor r.end ≤ (replay (known_of r.end 1)).base.generation

abbrev pub IsOneOf : {X : Type 0} → X → List X → Type 0
IsOneOf x [] = ⊥
IsOneOf x (y ∷ ys) = (y ≡ x) ⊎ IsOneOf x ys

-- `r` is the run of caller 0, which started with the first setting, or of a caller that was forked in one of `runs`
pub record Began (runs : List Run) (r : Run) : Type 0 where
  pub how : ((r.begun.caller ≡ 0) × (r.begun.set ≡ first_setting))
      ⊎ ((p : Run) × IsOneOf p runs × IsOneOf r.begun p.kids)

-- the lines of all callers
abbrev pub lines_of_all : List Run → List (List SeenLine)
lines_of_all runs = map (λ r. r.lines) runs

-- the sum of f over the places of all marks of `lane` in these lines
abbrev pub marked : (ℕ → ℕ) → LaneId → List (List SeenLine) → ℕ
marked f lane t = sum_by (λ mark. f mark.place) (lane_marks lane (all_marks t))

-- all callers of a script made their calls on a new table; w is the view of the pass that joined all others
pub record RanAll (script : Script) (runs : List Run) (w : View) : Type 0 where
  pub each : EachCaller HasRun 0 script.callers runs
  pub began : AllByRecursion (Began runs) runs
  pub sized : AllByRecursion (λ r. length w.lanes ≡ length r.end.lanes) runs
  pub known : AllByRecursion (λ r. Grows r.end w) runs
  pub placed : (f : ℕ → ℕ) (lane : LaneId) → index_of lane < length w.lanes →
      sum_by f (at (index_of lane) w).places ≡ marked f lane (lines_of_all runs)
  pub made : (lane : LaneId) → index_of lane < length w.lanes →
      (at (index_of lane) w).made ≡ marked (λ p. 1) lane (lines_of_all runs)
  pub wide : length w.lanes ≡ script.cpus + 2
  pub ended : Ended (script.cpus + 2) w

-- `t` is a lawful transcript of the script; its book has the lanes' lists of the view `w`, and the state lists of
-- `meanings`
pub record LawfulRuns (script : Script) (t : List (List SeenLine)) (w : View) : Type 0 where
  pub meanings : List (List CallMeaning)
  pub transcript : IsTranscriptBy script t (book_of (script.cpus + 2) (known_of w) (map state_lists meanings)) meanings

abbrev pub CallersAreLawful : Type 0
CallersAreLawful = (script : Script) (runs : List Run) (w : View) → WellFormed script → RanAll script runs w →
    LawfulRuns script (lines_of_all runs) w
