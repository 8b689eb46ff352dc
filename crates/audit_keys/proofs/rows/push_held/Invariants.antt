use Rattle.std.specs.Prelude.{◌≡◌, ◌++◌, map, take}
use Rattle.audit_keys.specs.Rows.{held_piece}
use Rattle.audit_keys.proofs.rows.push_held.Given as goal

abbrev pub invariant-loop-rest : goal.invariant-loop-rest
invariant-loop-rest l = l.pieces.items ≡ l.initial.pieces.items ++ map held_piece (take l.rest-index l.rests)
