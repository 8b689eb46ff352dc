-- The result of reading lines, compared with the definitions.
use Rattle.std.specs.Prelude.{◌≡◌, ℕ, Bool, true, false, ⊤, List, Some, Result, Ok, Err}
use Rattle.key_names.specs.declared.faults.ScriptFault.{ScriptFault}
use Rattle.key_names.specs.Texts.ScriptFaults.{first_fault, Draft, Next, GoesOn, Ends}
use Rattle.event_script.specs.declared.whole.error.LineError.{LineError}
use Rattle.event_script.specs.declared.whole.error.LineError.TheVariants.{Memory, Kind}
use Rattle.event_script.specs.declared.script_error.ScriptError.{ScriptError}
use Rattle.event_script.specs.declared.script_error.ScriptError.TheVariants.{Fault, NoMemory}
use Rattle.event_script.specs.declared.script_error.Unread.{Unread}

-- the error of line `n`: its fault, with the line's number, or a lack of memory
abbrev pub script_error : ℕ → LineError → ScriptError
script_error n (Kind kind) = Fault (record { line = n; kind = kind })
script_error n Memory = NoMemory

abbrev pub FailsAt : {Y : Type 0} → ScriptError → Result Y ScriptFault → Type 0
FailsAt (Fault fault) given = given ≡ Err fault
FailsAt NoMemory given = ⊤

-- a function's result agrees with `given`: `view` maps the returned value to the value of `given`, and a returned error
-- is the fault of `given`, unless memory ran out
abbrev pub GivesScript : {X Y : Type 0} → (X → Y) → Result X ScriptError → Result Y ScriptFault → Type 0
GivesScript view (Ok x) given = given ≡ Ok (view x)
GivesScript view (Err e) given = FailsAt e given

-- the same as `GivesScript`, for an error that also contains the faulty line
abbrev pub GivesUnread : {X Y : Type 0} → (X → Y) → Result X Unread → Result Y ScriptFault → Type 0
GivesUnread view (Ok x) given = given ≡ Ok (view x)
GivesUnread view (Err unread) given = FailsAt unread.error given

-- the state after a line: if the flag is true, more lines may follow the draft `d`; if it is false, the script has
-- ended
abbrev pub next_as : Bool → Draft → Next
next_as true d = GoesOn d
next_as false d = Ends

-- the error is the text's first fault, or memory ran out
abbrev pub IsFirstFault : ScriptError → List ℕ → Type 0
IsFirstFault (Fault fault) text = first_fault text ≡ Some fault
IsFirstFault NoMemory text = ⊤
