-- The effect of a call on the book. A statement about the effect holds for all lists of visits that continue the lists
-- that the pass knows.
use Rattle.std.specs.Prelude.{◌≡◌, ℕ, List, [], map, Bool, true, false, Result, Ok, Err}
use Rattle.key_names.specs.declared.entries.VEntry.{VEntry}
use Rattle.key_names.specs.Callers.Calls.{Setting as CallSetting}
use Rattle.key_names.specs.Callers.Effects.{Effect, effects_of}
use Rattle.key_names.specs.declared.events.Event.{Event}
use Rattle.key_names.specs.declared.events.Answer.{Answer}
use Rattle.key_names.specs.declared.events.Answer.TheVariants.{Ok as Done, Fired, Idle}
use Rattle.key_names.specs.declared.errno.Errno.{Errno}
use Rattle.key_names.specs.Transcripts.SeenLine.{Shown}
use Rattle.key_names.specs.Callers.Forms.{Form}
use Rattle.key_names.specs.Callers.Answers.{served_bytes, answer_of, shown_of}
use Rattle.key_names.specs.Callers.VreadSteps.{answer_of_errno}
use Rattle.lane_table.specs.declared.view.Visit.{Visit}
use Rattle.lane_table.specs.declared.view.Handed.{Handed}
use Rattle.lane_table.specs.declared.view.LaneEntry.{LaneEntry}
use Rattle.lane_table.specs.declared.view.LaneEntry.TheVariants.{Pool, Base, Cpu}
use Rattle.lane_table.specs.Meaning.{Model}
use Rattle.lane_table.specs.BookLists.{book_lists}
use Rattle.lane_table.specs.BookLaws.{Continues}
use Rattle.lane_table.specs.VisitsMet.{base_serving, cpu_serving}
use Rattle.lane_table.specs.Advances.{MadeStep, step_of}
use Rattle.rng_core.specs.Traces.{Moment, Visited}
use Rattle.rng_core.specs.Traces as recorded
use Rattle.rng_core.specs.declared.setting.Setting.{Setting}

-- the part of the setting that a form uses
abbrev pub setting_of : Setting → CallSetting
setting_of set = record { cpu = set.cpu; now = set.now; hw = set.hw }

-- from `m` to `n` the trace lists the steps of the pass, and P holds for the lanes' lists of visits and for the effects
-- of these steps
pub record MakesIn (P : (ℕ → List Visit) → List Effect → Type 0) (set : Setting) (m n : Moment) : Type 0 where
  pub made_steps : List MadeStep
  pub recorded : recorded.TraceRecords set m n made_steps
  pub conforms : (lanes : ℕ) (visits : ℕ → List Visit) (callers : List (List (List VEntry))) →
      Continues lanes n.view visits → P visits (effects_of (book_lists lanes visits callers) (map step_of made_steps))

-- from `m` to `n` the trace lists the steps of the pass, and P holds for the effects of these steps
abbrev pub Makes : (List Effect → Type 0) → Setting → Moment → Moment → Type 0
Makes P set m n = MakesIn (λ visits. P) set m n

-- `effects` have the form `F`, and serve `bytes`
pub record Serving (F : List Effect → Type 0) (bytes : List ℕ) (effects : List Effect) : Type 0 where
  pub form : F effects
  pub bytes_are : bytes ≡ served_bytes effects

-- the bytes that an entry serves; `s` is the model of its lane (the value in the proofs), and `got` the received key
abbrev pub serving : LaneEntry → Model → Handed → List ℕ
serving (Pool e) s got = []
serving (Base e) s got = base_serving s.base got e
serving (Cpu e) s got = cpu_serving s.cpu got e

-- one visit of `lane` was made, at `place` with the entry `e`, and it served `bytes`
pub record Served (set : Setting) (m n : Moment) (lane place : ℕ) (e : LaneEntry) (bytes : List ℕ) : Type 0 where
  pub model : Model
  pub got : Handed
  pub visited : Visited set m n lane place model e got
  pub serves : bytes ≡ serving e model got

-- `effects` match a form of `event`; `answer` and `shown` are the answer and the data that the event's line then has
pub record IsOutcomeOf (set : CallSetting) (event : Event) (answer : Answer) (shown : Shown) (effects : List Effect) : Type
    0 where
  pub form : Form set event effects
  pub answers : answer ≡ answer_of event effects
  pub shows : shown ≡ shown_of event effects

abbrev pub result_answer : {T : Type 0} → Result T Errno → Answer
result_answer (Ok x) = Done
result_answer (Err e) = answer_of_errno e

abbrev pub tick_result : Bool → Answer
tick_result true = Fired
tick_result false = Idle

-- the bytes that a call returns: none if it failed
abbrev pub given : {T : Type 0} → Result T Errno → List ℕ → List ℕ
given (Ok x) bytes = bytes
given (Err e) bytes = []
