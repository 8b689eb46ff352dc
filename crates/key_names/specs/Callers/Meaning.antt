-- The meaning of a call: the effects, the answers and the data of its lines, and the caller's state after the call.
use Rattle.std.specs.Prelude.{ℕ, ◌≡◌, Bool, not, ◌&&◌, ◌==◌, MatchBool, ⊤, List, [], ◌∷◌, replicate, slice_get}
use Rattle.std.specs.Prelude.{slice_set, unwrap_or, length}
use Rattle.key_names.specs.declared.entries.VEntry.{VEntry}
use Rattle.key_names.specs.declared.entries.VEntry.TheVariants.{Wipe}
use Rattle.key_names.specs.declared.events.Event.{Event}
use Rattle.key_names.specs.declared.events.Event.TheVariants.{At, On, Hw, Device, Write, Add, Credit, Bits, Irq, Input}
use Rattle.key_names.specs.declared.events.Event.TheVariants.{Read, Vread, Kread, Dread, Uread, Int8, Int16, Int32}
use Rattle.key_names.specs.declared.events.Event.TheVariants.{Int64}
use Rattle.key_names.specs.declared.events.Event.TheVariants.{Reseed, Tick, Drop, Fork, Inside, Prepare, Online, Vmfork}
use Rattle.key_names.specs.declared.events.Event.TheVariants.{State}
use Rattle.key_names.specs.declared.events.Answer.{Answer}
use Rattle.key_names.specs.declared.events.Answer.TheVariants.{Ok as Done, Unused}
use Rattle.key_names.specs.declared.events.InsideAct.{InsideAct}
use Rattle.key_names.specs.declared.events.InsideAct.TheVariants.{Wipe as WipeAct, Vread as VreadAct}
use Rattle.key_names.specs.declared.events.InsideAct.TheVariants.{Reseed as ReseedAct}
use Rattle.key_names.specs.Kernel.Flags.{is_bad}
use Rattle.key_names.specs.Callers.Calls.{Setting, setting_after, Call, alone, vread_call, unbound, ending, BoundAct}
use Rattle.key_names.specs.Callers.Effects.{Effect}
use Rattle.key_names.specs.Callers.Forms.{Form, EndForm, SysForm, Looked}
use Rattle.key_names.specs.Callers.Answers.{answer_of, shown_of, system_answer, served_bytes}
use Rattle.key_names.specs.Transcripts.SeenLine.{Shown, no_data, bytes_or_none}
use Rattle.key_names.specs.Kernel.VgetrandomState.{VgetrandomState, wiped_state}
use Rattle.key_names.specs.Kernel.BatchCopy.{copy_bytes, copy_entries, state_after_copy, serves_locally}
use Rattle.key_names.specs.Kernel.Vgetrandom.{HostStep, Outcome, IsCall}
use Rattle.key_names.specs.Callers.VreadSteps.{Shows, WipesConform, points_of, is_reached, ending_answer, ending_shown}
use Rattle.key_names.specs.Callers.VreadSteps.{published_by, NeverFall, looks_of}

-- a caller's state between two calls: its setting, its sixteen vgetrandom states, and the number of the current one
pub record CallerState : Type 0 where
  pub setting : Setting
  pub states : List VgetrandomState
  pub current : ℕ

-- a caller starts with all states wiped, and the first is current
abbrev pub caller_start : Setting → CallerState
caller_start setting = record { setting = setting; states = replicate 16 wiped_state; current = 0 }

-- the vgetrandom state that a caller's vreads use, and that `drop` wipes
abbrev pub current_state : CallerState → VgetrandomState
current_state s = unwrap_or (slice_get s.states s.current) wiped_state

abbrev pub with_state : CallerState → VgetrandomState → CallerState
with_state s state = record s { states = slice_set s.states s.current state }

-- the meaning of a line: the effects of its steps, its answer, and its data
pub record LineMeaning : Type 0 where
  pub effects : List Effect
  pub answer : Answer
  pub shown : Shown

-- the meaning of a call: its own line, the lines of the acts inside it, the entries that it appends to the current
-- state's list, and the caller's state before and after it
pub record CallMeaning : Type 0 where
  pub own : LineMeaning
  pub acts : List LineMeaning
  pub entries : List VEntry
  pub before : CallerState
  pub after : CallerState

-- the entries that an event, if it is a call by itself, appends to the list of the current vgetrandom state
abbrev pub event_entries : Event → List VEntry
event_entries Drop = Wipe ∷ []
event_entries (At moment) = []
event_entries (On cpu) = []
event_entries (Hw bytes) = []
event_entries (Device word text) = []
event_entries (Write text) = []
event_entries (Add text bits) = []
event_entries (Credit bits) = []
event_entries Bits = []
event_entries (Irq v1 v2) = []
event_entries (Input word kind code value) = []
event_entries (Read len flags) = []
event_entries (Vread len flags) = []
event_entries (Kread len) = []
event_entries (Dread len flag) = []
event_entries (Uread len) = []
event_entries Int8 = []
event_entries Int16 = []
event_entries Int32 = []
event_entries Int64 = []
event_entries Reseed = []
event_entries Tick = []
event_entries (Fork child) = []
event_entries (Inside point act) = []
event_entries (Prepare cpu) = []
event_entries (Online cpu) = []
event_entries (Vmfork word text) = []
event_entries (State number) = []

-- the caller's state after an event that is a call by itself
abbrev pub caller_after : CallerState → Event → CallerState
caller_after s Drop = with_state s wiped_state
caller_after s (State number) = record s { current = number }
caller_after s event = record s { setting = setting_after s.setting event }

-- the meaning of an event that is a call by itself
pub record AloneMeans (event : Event) (m : CallMeaning) : Type 0 where
  pub form : Form m.before.setting event m.own.effects
  pub answer : m.own.answer ≡ answer_of event m.own.effects
  pub shown : m.own.shown ≡ shown_of event m.own.effects
  pub no_acts : m.acts ≡ []
  pub entries : m.entries ≡ event_entries event
  pub after : m.after ≡ caller_after m.before event

-- the meaning of the line of an act that was not done
abbrev pub unused_line : LineMeaning
unused_line = record { effects = []; answer = Unused; shown = no_data }

-- an act that no vread follows is not done
pub record UnboundMeans (m : CallMeaning) : Type 0 where
  pub own : m.own ≡ unused_line
  pub no_acts : m.acts ≡ []
  pub entries : m.entries ≡ []
  pub after : m.after ≡ m.before

-- the meaning of a caller's end
pub record EndingMeans (m : CallMeaning) : Type 0 where
  pub form : EndForm m.own.effects
  pub answer : m.own.answer ≡ Done
  pub shown : m.own.shown ≡ no_data
  pub no_acts : m.acts ≡ []
  pub entries : m.entries ≡ []
  pub after : m.after ≡ m.before

-- the meaning of an act inside a vread, under the setting of that vread. A read among the acts is a system call
abbrev pub ActMeans : Setting → InsideAct → LineMeaning → Type 0
ActMeans set WipeAct m = m ≡ record { effects = []; answer = Done; shown = no_data }
ActMeans set (VreadAct n) m =
    SysForm set n 0 m.effects × (m.answer ≡ system_answer 0 m.effects) × (m.shown ≡ bytes_or_none (served_bytes m.effects))
ActMeans set ReseedAct m =
    Form set Reseed m.effects × (m.answer ≡ answer_of Reseed m.effects) × (m.shown ≡ shown_of Reseed m.effects)

-- ActMeans holds for each act whose point was reached, and no other act was done
abbrev pub ActsMean : Setting → (BoundAct → Bool) → List BoundAct → List LineMeaning → Type 0
ActsMean set is_reached [] [] = ⊤
ActsMean set is_reached [] (m ∷ ms) = ⊥
ActsMean set is_reached (bound ∷ acts) [] = ⊥
ActsMean set is_reached (bound ∷ acts) (m ∷ ms) =
    MatchBool (is_reached bound) (ActMeans set bound.act m) (m ≡ unused_line) × ActsMean set is_reached acts ms

-- a copy of n bytes out of the current state: the look before `rest` is the line's only step
pub record ByLocalCopy (n : ℕ) (rest : List Effect) (m : CallMeaning) : Type 0 where
  pub no_more : rest ≡ []
  pub answer : m.own.answer ≡ Done
  pub shown : m.own.shown ≡ bytes_or_none (copy_bytes (current_state m.before) 0 n)
  pub no_acts : m.acts ≡ []
  pub entries : m.entries ≡ copy_entries (current_state m.before) 0 n
  pub after : m.after ≡ with_state m.before (state_after_copy (current_state m.before) 0 n)

-- a vgetrandom call for n bytes on the current state, with the acts inside it
pub record ByVgetrandom (n flags : ℕ) (acts : List BoundAct) (m : CallMeaning) : Type 0 where
  pub steps : List HostStep
  pub outcome : Outcome
  pub is_call : IsCall n flags (current_state m.before) steps outcome
  pub shows : Shows m.before.setting steps m.own.effects
  pub wipes : WipesConform acts (points_of steps)
  pub inside : ActsMean m.before.setting (is_reached (points_of steps)) acts m.acts
  pub answer : m.own.answer ≡ ending_answer outcome.ending
  pub shown : m.own.shown ≡ ending_shown outcome.ending
  pub entries : m.entries ≡ outcome.entries
  pub after : m.after ≡ with_state m.before outcome.state

-- whether a vread tries a copy first: it has no acts, asks for at least one byte, and its flags are good
abbrev pub tries_local : ℕ → ℕ → List BoundAct → Bool
tries_local n flags acts = length acts == 0 && (not (n == 0) && not (is_bad flags))

-- a vread that may try a copy, after its first look: a copy if the batch can serve the bytes, and otherwise a
-- vgetrandom call
abbrev pub LocalOrCall : ℕ → ℕ → List BoundAct → CallMeaning → ℕ → List Effect → Type 0
LocalOrCall n flags acts m look rest =
    MatchBool (serves_locally (published_by look) (current_state m.before) n) (ByLocalCopy n rest m)
    (ByVgetrandom n flags acts m)

-- the meaning of a vread of n bytes with these flags
pub record VreadMeans (n flags : ℕ) (acts : List BoundAct) (m : CallMeaning) : Type 0 where
  pub looks : NeverFall (looks_of m.own.effects)
  pub done_by : MatchBool (tries_local n flags acts) (Looked (LocalOrCall n flags acts m) m.own.effects)
      (ByVgetrandom n flags acts m)

-- the meaning m is allowed for the call
abbrev pub Means : Call → CallMeaning → Type 0
Means (alone event line) m = AloneMeans event m
Means (vread_call len flags line acts) m = VreadMeans len flags acts m
Means (unbound bound) m = UnboundMeans m
Means (ending line) m = EndingMeans m
