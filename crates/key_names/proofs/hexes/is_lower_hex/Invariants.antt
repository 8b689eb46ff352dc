use Rattle.std.proofs.Common.{◌≡◌, take, true}
use Rattle.std.specs.Prelude.{◌↔◌}
use Rattle.key_names.specs.Texts.Spelling.{AllLower}
use Rattle.key_names.proofs.hexes.is_lower_hex.Given as goal

abbrev pub invariant-loop-byte : goal.invariant-loop-byte
invariant-loop-byte l = (l.lower ≡ true) ↔ AllLower (take l.byte-index l.field)
