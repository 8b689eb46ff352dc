use Rattle.std.specs.Prelude.{◌≡◌, All, map, take}
use Rattle.audit_keys.specs.Rows.{birth_of, IsRow}
use Rattle.audit_keys.proofs.rows.rows_of.Given as goal

abbrev pub invariant-loop-birth : goal.invariant-loop-birth
invariant-loop-birth l = record {
  births : map birth_of l.rows.items ≡ take l.birth-index l.births;
  rows : All (IsRow l.pieces l.endings) l.rows.items;
}
