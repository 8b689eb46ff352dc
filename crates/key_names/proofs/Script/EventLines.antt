-- If an event is in range, each field of its line has only graphic characters (`Clean`).
use Rattle.std.proofs.Common.{ℕ, ◌≤◌, refl, arith}
use Rattle.std.specs.List.{AllByRecursion}
use Rattle.std.specs.Prelude.{codes}
use Rattle.key_names.specs.declared.events.Event.{Event}
use Rattle.key_names.specs.declared.events.Event.TheVariants.{At, On, Hw, Device, Write, Add, Credit, Irq, Input, Read, Vread, Kread, Dread, Uread, Fork, Inside, Prepare, Online, Vmfork, State}
use Rattle.key_names.specs.declared.events.InsideAct.{InsideAct}
use Rattle.key_names.specs.declared.events.InsideAct.TheVariants.{Wipe, Vread as VreadAct, Reseed as ReseedAct}
use Rattle.key_names.specs.Kernel.Points.{number_of}
use Rattle.key_names.specs.Texts.ScriptGrammar.{ActInRange, InRange, act_fields, arguments, event_fields, event_word}
use Rattle.key_names.proofs.Points.{number_small}
use Rattle.key_names.proofs.Script.LinedTexts.{Clean, clean_by, clean_decimal, clean_hex, clean_word}

clean_act : (act : InsideAct) → ActInRange act → AllByRecursion Clean (act_fields act)
clean_act Wipe range = (clean_by (codes "wipe") refl, tt)
clean_act (VreadAct len) range = (clean_by (codes "vread") refl, (clean_decimal len (omega arith), tt))
clean_act ReseedAct range = (clean_by (codes "reseed") refl, tt)

clean_arguments : (version cpus : ℕ) (event : Event) → cpus ≤ 256 → InRange version cpus event →
    AllByRecursion Clean (arguments event)
clean_arguments version cpus (At moment) few range = (clean_decimal moment (omega arith), tt)
clean_arguments version cpus (On cpu) few range = (clean_decimal cpu (omega arith), tt)
clean_arguments version cpus (Hw bytes) few range = (clean_hex bytes range.0, tt)
clean_arguments version cpus (Device word text) few range = (clean_decimal word range.0, (clean_hex text range.1, tt))
clean_arguments version cpus (Write text) few range = (clean_hex text range, tt)
clean_arguments version cpus (Add text bits) few range =
    (clean_hex text range.0, (clean_decimal bits (omega arith), tt))
clean_arguments version cpus (Credit bits) few range = (clean_decimal bits (omega arith), tt)
clean_arguments version cpus (Irq v1 v2) few range = (clean_decimal v1 range.0, (clean_decimal v2 range.1, tt))
clean_arguments version cpus (Input word kind code value) few range = (
  clean_decimal word range.0,
  (
    clean_decimal kind (omega arith),
    (clean_decimal code (omega arith), (clean_decimal value (omega arith), tt)),
  ),
)
clean_arguments version cpus (Read len flags) few range =
    (clean_decimal len (omega arith), (clean_decimal flags (omega arith), tt))
clean_arguments version cpus (Vread len flags) few range =
    (clean_decimal len (omega arith), (clean_decimal flags (omega arith), tt))
clean_arguments version cpus (Kread len) few range = (clean_decimal len (omega arith), tt)
clean_arguments version cpus (Dread len flag) few range =
    (clean_decimal len (omega arith), (clean_decimal flag (omega arith), tt))
clean_arguments version cpus (Uread len) few range = (clean_decimal len (omega arith), tt)
clean_arguments version cpus (Fork child) few range = (clean_decimal child (omega arith), tt)
clean_arguments version cpus (Inside point act) few range = (clean_decimal (number_of point) (omega (arith, number_small point)), clean_act act range)
clean_arguments version cpus (Prepare cpu) few range = (clean_decimal cpu (omega arith), tt)
clean_arguments version cpus (Online cpu) few range = (clean_decimal cpu (omega arith), tt)
clean_arguments version cpus (Vmfork word text) few range = (clean_decimal word range.1, (clean_hex text range.2, tt))
clean_arguments version cpus (State number) few range = (clean_decimal number (omega arith), tt)
clean_arguments version cpus _ few range = tt

pub clean_event : (version cpus : ℕ) (event : Event) → cpus ≤ 256 → InRange version cpus event →
    AllByRecursion Clean (event_fields event)
clean_event version cpus event few range = (clean_word (event_word event), clean_arguments version cpus event few range)
