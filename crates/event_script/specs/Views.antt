-- The result of a function, compared with a result of the definitions.
use Rattle.std.specs.Prelude.{◌≡◌, ℕ, ⊤, List, [], Option, Some, None, Result, Ok, Err}
use Rattle.std.specs.Borrow.{Bor}
use Rattle.key_names.specs.declared.faults.FaultKind.{FaultKind}
use Rattle.key_names.specs.Texts.ScriptFaults.{parts}
use Rattle.event_script.specs.declared.whole.error.LineError.{LineError}
use Rattle.event_script.specs.declared.whole.error.LineError.TheVariants.{Memory, Kind}

-- a function's result agrees with `given`: `view` maps the returned value to the value of `given`, or both are the same
-- fault
abbrev pub Tells : {X Y : Type 0} → (X → Y) → Result X FaultKind → Result Y FaultKind → Type 0
Tells view (Ok x) given = given ≡ Ok (view x)
Tells view (Err kind) given = given ≡ Err kind

abbrev pub Fails : {Y : Type 0} → LineError → Result Y FaultKind → Type 0
Fails Memory given = ⊤
Fails (Kind kind) given = given ≡ Err kind

-- a function's result agrees with `given`: `view` maps the returned value to the value of `given`, and a returned error
-- is the fault of `given`, unless memory ran out
abbrev pub Gives : {X Y : Type 0} → (X → Y) → Result X LineError → Result Y FaultKind → Type 0
Gives view (Ok x) given = given ≡ Ok (view x)
Gives view (Err e) given = Fails e given

-- the fields after a word: none, or the parts of the text after the space
abbrev pub fields_of : Option (Bor (List ℕ)) → List (List ℕ)
fields_of None = []
fields_of (Some text) = parts 32 text.now
