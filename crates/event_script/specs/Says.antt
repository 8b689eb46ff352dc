-- The statement of a line (an event, the start of a caller's block, or the end), in the terms of the definitions.
use Rattle.std.specs.Prelude.{ℕ, List, Result}
use Rattle.key_names.specs.declared.faults.FaultKind.{FaultKind}
use Rattle.key_names.specs.Texts.ScriptFaults as faults
use Rattle.key_names.specs.Texts.ScriptFaults.{◌>>=◌, line_of, said}
use Rattle.event_script.specs.declared.statements.line.ScriptLine.{ScriptLine}
use Rattle.event_script.specs.declared.statements.line.ScriptLine.TheVariants.{Event, Caller, End}

abbrev pub said_as : ScriptLine → faults.Said
said_as (Event event) = faults.SaysEvent event
said_as (Caller c) = faults.SaysCaller c
said_as End = faults.SaysEnd

-- the statement of the first of the given lines, or that line's fault
abbrev pub said_first : ℕ → ℕ → List (List ℕ) → Result faults.Said FaultKind
said_first version cpus lines = line_of lines >>= said version cpus
