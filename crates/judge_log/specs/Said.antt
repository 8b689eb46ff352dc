-- The answers and data of a caller's lines.
use Rattle.std.specs.Prelude.{ℕ, ◌≡◌, ◌<◌, ◌≤◌, ◌^◌, ⊤, Some, List, slice_get}
use Rattle.std.specs.List.{AllByRecursion}
use Rattle.key_names.specs.declared.events.Event.{Event}
use Rattle.key_names.specs.declared.events.Event.TheVariants.{State}
use Rattle.key_names.specs.Lanes.Book.{Lists}
use Rattle.key_names.specs.Callers.Calls.{Setting, Call, alone, vread_call, unbound, ending, calls_of}
use Rattle.key_names.specs.Transcripts.IsTranscript.{CallerMeans, EachLine, LinesFit}
use Rattle.key_names.specs.Callers.Meaning.{LineMeaning, CallMeaning}
use Rattle.key_names.specs.Transcripts.SeenLine.{SeenLine, Shown, no_data, count, bytes_or_none}
use Rattle.key_names.specs.Texts.TranscriptGrammar.{StepFits}
use Rattle.judge_vread.specs.Recipe.{bytes_made}
use Rattle.judge_log.specs.declared.said.MadeLine.{MadeLine}
use Rattle.judge_log.specs.declared.said.ShownRecipe.{ShownRecipe}
use Rattle.judge_log.specs.declared.said.ShownRecipe.TheVariants.{Nothing, Count, Served}

abbrev pub shown_by : ShownRecipe → Shown
shown_by Nothing = no_data
shown_by (Count n) = count n
shown_by (Served recipe) = bytes_or_none (bytes_made recipe)

-- `notes` has, at this event's number, a note of the answer and data `one`
pub record NotedAt {Noted : Type 0} (IsNoted : ℕ → MadeLine → Noted → Type 0) (notes : List Noted) (event : ℕ)
    (one : MadeLine) : Type 0 where
  pub note : Noted
  pub is : slice_get notes event ≡ Some note
  pub noted : IsNoted event one note

-- `noted` is the whole answer and data
abbrev pub itself : ℕ → ℕ → MadeLine → MadeLine → Type 0
itself caller event said noted = noted ≡ said

-- `At` holds of the number of the line's event, with the answer and data in the line's meaning `m`
pub record SaysIt (At : ℕ → MadeLine → Type 0) (line : SeenLine) (m : LineMeaning) : Type 0 where
  pub one : MadeLine
  pub is : At line.event one
  pub answer : m.answer ≡ one.answer
  pub shown : m.shown ≡ shown_by one.shows

-- the calls have lawful meanings, and `At` holds of each event's number, with the answer and data in these meanings
pub record IsSaid (lists : Lists) (set : Setting) (calls : List Call) (At : ℕ → MadeLine → Type 0) : Type 0 where
  pub meanings : List CallMeaning
  pub mean : CallerMeans lists set calls meanings
  pub says : EachLine (SaysIt At) calls meanings

-- the calls group the events with their lines, one line for each event, and all looks found generations below 2^63
pub record AreCallsOf (events : List Event) (lines : List SeenLine) (calls : List Call) : Type 0 where
  pub caller : ℕ
  pub fit : LinesFit caller 0 events lines
  pub looks : AllByRecursion (λ line. AllByRecursion StepFits line.steps) lines
  pub are : calls ≡ calls_of events lines

abbrev pub StateInRange : Event → Type 0
StateInRange (State number) = number < 16
StateInRange _ = ⊤

-- a vread has at most 2^20 bytes, and the event `state` has a number below 16
abbrev pub CallInRange : Call → Type 0
CallInRange (alone event line) = StateInRange event
CallInRange (vread_call len flags line acts) = len ≤ 2 ^ 20
CallInRange (unbound bound) = ⊤
CallInRange (ending line) = ⊤
