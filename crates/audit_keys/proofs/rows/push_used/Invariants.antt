use Rattle.std.specs.Prelude.{◌≡◌, ◌++◌, map, take}
use Rattle.audit_keys.specs.Rows.{used_piece}
use Rattle.audit_keys.proofs.rows.push_used.Given as goal

abbrev pub invariant-loop-used : goal.invariant-loop-used
invariant-loop-used l = l.pieces.items ≡ l.initial.pieces.items ++ map used_piece (take l.used-index l.uses)
