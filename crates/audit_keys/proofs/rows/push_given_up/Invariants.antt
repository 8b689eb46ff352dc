use Rattle.std.specs.Prelude.{◌≡◌, ◌++◌, map, take}
use Rattle.audit_keys.specs.Rows.{given_up_piece}
use Rattle.audit_keys.proofs.rows.push_given_up.Given as goal

abbrev pub invariant-loop-rest : goal.invariant-loop-rest
invariant-loop-rest l = l.pieces.items ≡ l.initial.pieces.items ++ map given_up_piece (take l.rest-index l.rests)
