-- The run of the only caller of a script, event by event. No line is kept.
use Rattle.std.specs.Prelude.{◌≡◌, ℕ, ◌+◌, ◌*◌, ◌≤◌, ◌^◌, ⊤, Some, List, [], ◌∷◌, ◌++◌, length, take, slice_get, sum_by, vec_len}
use Rattle.std.specs.List.{AllByRecursion}
use Rattle.key_names.specs.declared.events.Event.{Event}
use Rattle.key_names.specs.declared.events.Event.TheVariants.{Vread, Inside, Fork}
use Rattle.key_names.specs.declared.names.Step.{Step}
use Rattle.key_names.specs.Transcripts.SeenLine.{SeenLine}
use Rattle.key_names.specs.Texts.ScriptGrammar.{Script, WellFormed}
use Rattle.key_names.specs.Texts.TranscriptGrammar.{StepFits}
use Rattle.lane_table.specs.declared.lanes.Lanes.{Lanes}
use Rattle.lane_table.specs.declared.lanes.Pass.{Pass}
use Rattle.lane_table.specs.declared.view.View.{View}
use Rattle.lane_table.specs.Calls.{view}
use Rattle.rng_core.specs.Makes.{setting_of}
use Rattle.rng_core.specs.Settings.{first_setting}
use Rattle.transcript_text.specs.Gathered.{Gathered}
use Rattle.caller_run.specs.declared.alone.LoneRun.{LoneRun}
use Rattle.caller_run.specs.declared.making.caller.Caller.{Caller}
use Rattle.caller_run.specs.declared.output.reply.Reply.{Reply}
use Rattle.caller_run.specs.Calling.{Called, StateRead}
use Rattle.caller_run.specs.Laws.{LawfulRuns}
use Rattle.caller_run.specs.Says.{most_shown, shown_by, ShowsFit}
use Rattle.caller_run.specs.Standing.{CanAdvanceWith, HasAdvanced, Start}
use Rattle.caller_run.specs.RunningCallers.{IsFirst}

-- the event is no act and no fork, so its line, once made, is final
abbrev pub IsEmittedOnce : Event → Type 0
IsEmittedOnce (Inside point act) = ⊥
IsEmittedOnce (Fork child) = ⊥
IsEmittedOnce _ = ⊤

-- a script with one caller, whose events include no act and no fork
pub record IsEmittedByOne (script : Script) : Type 0 where
  pub one : length script.callers ≡ 1
  pub once : AllByRecursion (AllByRecursion IsEmittedOnce) script.callers

-- the caller, which was `c` and is now `d`, made the call of an event whose line is final, with this reply, these bytes
-- and these steps
abbrev pub CalledOnce : Lanes → Event → Caller → Caller → Reply → List ℕ → List Step → Type 0
CalledOnce t (Vread len flags) c d said served steps = StateRead t len flags c d said served steps [] []
CalledOnce t event c d said served steps = Called t event c d said served steps

-- `lines` as if the run had kept them, with room left for the lines of the events `rest` and for a last line
abbrev pub as_kept : List SeenLine → List Event → Gathered
as_kept lines rest = record {
  lines = lines;
  bytes = [];
  steps = [];
  line_room = length rest + 1;
  byte_room = sum_by most_shown rest;
  step_room = 20 * (length rest + 1);
}

-- the caller has made `lines`. With a buffer of `served` bytes it can go on with the events `rest`, which include no
-- act and no fork
pub record GoesAlone (t : Lanes) (served : ℕ) (begun : Start) (events rest : List Event) (c : Caller)
    (lines : List SeenLine) : Type 0 where
  pub inside : ℕ
  pub can : CanAdvanceWith t c (as_kept lines rest) [] served inside rest
  pub once : AllByRecursion IsEmittedOnce rest
  pub gone : HasAdvanced begun events rest c lines [] []

-- the start of caller 0 on a new table, with this pass
abbrev pub first_start : Pass → Start
first_start p = record { caller = 0; set = setting_of (first_setting 0); view = view p }

-- the script's only caller has made these lines, and goes on with the remaining events `rest`
pub record IsGoing (script : Script) (rest : List Event) (run : LoneRun) (lines : List SeenLine) : Type 0 where
  pub well : WellFormed script
  pub cpus : run.lanes.cpus ≡ script.cpus
  pub alone : length script.callers ≡ 1
  pub events : List Event
  pub there : slice_get script.callers 0 ≡ Some events
  pub once : AllByRecursion IsEmittedOnce events
  -- the pass at the start of the run
  pub pass : Pass
  pub first : IsFirst (view pass)
  pub whole : (view pass).share ≡ 2 ^ (view pass).halvings
  pub goes : GoesAlone run.lanes (vec_len run.served) (first_start pass) events rest run.caller lines

-- the caller has made the events `made`. Suppose that a well-formed script has `cpus` CPUs and one caller, whose events
-- begin with `made` and include no act and no fork. Then the run can go on with the events that follow
abbrev pub HasMade : ℕ → List Event → LoneRun → List SeenLine → Type 0
HasMade cpus made run lines =
    (script : Script) (rest : List Event) → WellFormed script → IsEmittedByOne script → script.cpus ≡ cpus
    → script.callers ≡ (made ++ rest) ∷ [] → IsGoing script rest run lines

-- before its first event, the run can make all events of any one-caller script that has no act and no line with more
-- than `longest` bytes
abbrev pub HasRoom : ℕ → ℕ → LoneRun → Type 0
HasRoom cpus longest run =
    (script : Script) (events : List Event) → WellFormed script → script.cpus ≡ cpus → length script.callers ≡ 1
    → slice_get script.callers 0 ≡ Some events → AllByRecursion IsEmittedOnce events
    → AllByRecursion (λ event. most_shown event ≤ longest) events → IsGoing script events run []

-- the lines are a lawful transcript of the script
abbrev pub IsLawful : Script → List SeenLine → Type 0
IsLawful script lines = (w : View) × LawfulRuns script (lines ∷ []) w

-- the line that was made last
abbrev pub last_line : LoneRun → SeenLine
last_line run = record {
  caller = run.caller.set.caller;
  event = run.recorded.event;
  word = run.recorded.word;
  answer = run.recorded.said.answer;
  steps = run.trace;
  shown = shown_by (take run.recorded.shown run.served.items) run.recorded.said.shows;
}

-- the run has made a line, and the line's steps and data fit a transcript
pub record HasLine (run : LoneRun) : Type 0 where
  pub steps_fit : AllByRecursion StepFits run.trace
  pub shows : ShowsFit run.recorded.word run.recorded.said.shows
  pub within : run.recorded.shown ≤ vec_len run.served
