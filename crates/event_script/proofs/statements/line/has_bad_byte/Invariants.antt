use Rattle.std.proofs.Common.{◌≡◌, take}
use Rattle.std.specs.List.{list_any}
use Rattle.key_names.specs.Texts.ScriptFaults.{is_unprintable}
use Rattle.event_script.proofs.statements.line.has_bad_byte.Given as goal

abbrev pub invariant-loop-byte : goal.invariant-loop-byte
invariant-loop-byte l = l.bad ≡ list_any is_unprintable (take l.byte-index l.line)
