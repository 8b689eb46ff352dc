-- A caller's events as calls, one after another, and the setting of each call.
use Rattle.std.specs.Prelude.{ℕ, zero, suc, Bool, true, false, Option, Some, None, List, [], ◌∷◌, ◌++◌, ◌==◌, replicate}
use Rattle.std.specs.Prelude.{if◌then◌else◌}
use Rattle.std.specs.List.{fold}
use Rattle.key_names.specs.declared.events.Event.{Event}
use Rattle.key_names.specs.declared.events.Event.TheVariants.{At, On, Hw, Device, Write, Add, Credit, Bits, Irq, Input}
use Rattle.key_names.specs.declared.events.Event.TheVariants.{Read, Vread, Kread, Dread, Uread, Int8, Int16, Int32}
use Rattle.key_names.specs.declared.events.Event.TheVariants.{Int64}
use Rattle.key_names.specs.declared.events.Event.TheVariants.{Reseed, Tick, Drop, Fork, Inside, Prepare, Online, Vmfork}
use Rattle.key_names.specs.declared.events.Event.TheVariants.{State}
use Rattle.key_names.specs.declared.events.InsideAct.{InsideAct}
use Rattle.key_names.specs.declared.point.Point.{Point}
use Rattle.key_names.specs.Transcripts.SeenLine.{SeenLine}

-- a caller's setting: its CPU, its moment in milliseconds and its hardware words
pub record Setting : Type 0 where
  pub cpu : ℕ
  pub now : ℕ
  pub hw : List ℕ

-- caller 0 starts on CPU 0 at moment 0, with zeros for hardware words
abbrev pub first_setting : Setting
first_setting = record { cpu = 0; now = 0; hw = replicate 32 0 }

abbrev pub setting_after : Setting → Event → Setting
setting_after set (At moment) = record set { now = moment }
setting_after set (On cpu) = record set { cpu = cpu }
setting_after set (Hw bytes) = record set { hw = bytes }
setting_after set (Device word text) = set
setting_after set (Write text) = set
setting_after set (Add text bits) = set
setting_after set (Credit bits) = set
setting_after set Bits = set
setting_after set (Irq v1 v2) = set
setting_after set (Input word kind code value) = set
setting_after set (Read len flags) = set
setting_after set (Vread len flags) = set
setting_after set (Kread len) = set
setting_after set (Dread len flag) = set
setting_after set (Uread len) = set
setting_after set Int8 = set
setting_after set Int16 = set
setting_after set Int32 = set
setting_after set Int64 = set
setting_after set Reseed = set
setting_after set Tick = set
setting_after set Drop = set
setting_after set (Fork child) = set
setting_after set (Inside point act) = set
setting_after set (Prepare cpu) = set
setting_after set (Online cpu) = set
setting_after set (Vmfork word text) = set
setting_after set (State number) = set

-- an act that waits for a point of a vread: the point, the action, and the act's line
pub record BoundAct : Type 0 where
  pub point : Point
  pub act : InsideAct
  pub line : SeenLine

-- one call with its lines: an event by itself, a vread with the acts inside it, an act that no vread follows, or the
-- caller's end
pub data Call : Type 0 where
  alone : Event → SeenLine → Call
  vread_call : ℕ → ℕ → SeenLine → List BoundAct → Call
  unbound : BoundAct → Call
  ending : SeenLine → Call

-- whether one of the events is a vread
abbrev pub has_vread : List Event → Bool
has_vread [] = false
has_vread (Vread len flags ∷ es) = true
has_vread (_ ∷ es) = has_vread es

-- the calls of some events with their lines; `waiting` has the acts that wait for a vread
abbrev pub calls_from : List BoundAct → List Event → List SeenLine → List Call
calls_from waiting [] [] = []
calls_from waiting [] (line ∷ lines) = ending line ∷ []
calls_from waiting (event ∷ es) [] = []
calls_from waiting (Vread len flags ∷ es) (line ∷ lines) = vread_call len flags line waiting ∷ calls_from [] es lines
calls_from waiting (Inside point act ∷ es) (line ∷ lines) =
    let bound : BoundAct = record { point = point; act = act; line = line } in
    if has_vread es then calls_from (waiting ++ bound ∷ []) es lines else unbound bound ∷ calls_from waiting es lines
calls_from waiting (event ∷ es) (line ∷ lines) = alone event line ∷ calls_from waiting es lines

-- the calls of a caller
abbrev pub calls_of : List Event → List SeenLine → List Call
calls_of events lines = calls_from [] events lines

-- the calls of each caller
abbrev pub all_calls : List (List Event) → List (List SeenLine) → List (List Call)
all_calls [] t = []
all_calls (events ∷ callers) [] = calls_of events [] ∷ all_calls callers []
all_calls (events ∷ callers) (lines ∷ t) = calls_of events lines ∷ all_calls callers t

-- the setting after a call. Only an event that is a call by itself (`alone`) changes the setting
abbrev pub setting_after_call : Setting → Call → Setting
setting_after_call set (alone event line) = setting_after set event
setting_after_call set (vread_call len flags line acts) = set
setting_after_call set (unbound bound) = set
setting_after_call set (ending line) = set

-- a fork in a list of calls: the calls before the fork, and the fork's line
pub record ForkPoint : Type 0 where
  pub before : List Call
  pub line : SeenLine

abbrev pub with_call_before : Call → Option ForkPoint → Option ForkPoint
with_call_before call None = None
with_call_before call (Some fork) = Some (record fork { before = call ∷ fork.before })

abbrev pub fork_point : ℕ → List Call → Option ForkPoint
fork_point c [] = None
fork_point c (alone (Fork child) line ∷ calls) =
    if child == c then Some (record { before = []; line = line })
    else with_call_before (alone (Fork child) line) (fork_point c calls)
fork_point c (call ∷ calls) = with_call_before call (fork_point c calls)

-- the parent of a caller, and the parent's fork that starts the caller
pub record Parent : Type 0 where
  pub caller : ℕ
  pub fork : ForkPoint

abbrev pub parent_here : ℕ → Option ForkPoint → Option Parent → Option Parent
parent_here p None later = later
parent_here p (Some fork) later = Some (record { caller = p; fork = fork })

-- the parent of caller c; `p` is the number of the caller that has the first list of calls
abbrev pub parent_from : ℕ → ℕ → List (List Call) → Option Parent
parent_from c p [] = None
parent_from c p (calls ∷ rest) = parent_here p (fork_point c calls) (parent_from c (suc p) rest)

abbrev pub setting_of : List Setting → ℕ → Setting
setting_of [] c = first_setting
setting_of (set ∷ sets) zero = set
setting_of (set ∷ sets) (suc c) = setting_of sets c

-- a child starts with the setting that its parent has at the fork
abbrev pub inherited_setting : List Setting → Option Parent → Setting
inherited_setting sets None = first_setting
inherited_setting sets (Some parent) = fold setting_after_call (setting_of sets parent.caller) parent.fork.before

-- the settings that the first n callers start with; a parent has a lower number than its child
abbrev pub first_settings : List (List Call) → ℕ → List Setting
first_settings callers zero = []
first_settings callers (suc c) =
    let sets = first_settings callers c in sets ++ inherited_setting sets (parent_from c 0 callers) ∷ []
