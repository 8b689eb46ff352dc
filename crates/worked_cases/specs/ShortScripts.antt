-- Definitions for the cases of refused scripts in src/script_faults.rt.
use Rattle.std.specs.Prelude.{ℕ, Option, Some, [], ◌∷◌}
use Rattle.key_names.specs.declared.events.Event.TheVariants.{Write, Read}
use Rattle.key_names.specs.declared.faults.FaultKind.{FaultKind}
use Rattle.key_names.specs.declared.faults.ScriptFault.{ScriptFault}
use Rattle.key_names.specs.Texts.ScriptGrammar.{Script}

-- the script of one caller that writes three bytes and reads 16
abbrev pub short : Script
short = record { version = 1; cpus = 1; callers = (Write (0x61 ∷ 0x62 ∷ 0x63 ∷ []) ∷ Read 16 4 ∷ []) ∷ [] }

abbrev pub fault_at : ℕ → FaultKind → Option ScriptFault
fault_at n kind = Some (record { line = n; kind = kind })
