-- The words of events that have a field of bytes.
use Rattle.std.specs.Prelude.{Bool, true, false}
use Rattle.key_names.specs.declared.events.Word.{Word}
use Rattle.key_names.specs.declared.events.Word.TheVariants.{Hw, Device, Write, Add, Vmfork}

abbrev pub has_bytes : Word → Bool
has_bytes Hw = true
has_bytes Device = true
has_bytes Write = true
has_bytes Add = true
has_bytes Vmfork = true
has_bytes _ = false
