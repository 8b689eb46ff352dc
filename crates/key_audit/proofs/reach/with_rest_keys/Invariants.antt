use Rattle.std.proofs.Common.{◌≡◌, ◌++◌, drop}
use Rattle.key_audit.specs.Reach.{rest_keys}
use Rattle.key_audit.proofs.reach.with_rest_keys.Given as goal

abbrev pub invariant-loop-row : goal.invariant-loop-row
invariant-loop-row l =
    l.all.items ++ rest_keys l.rests (drop l.row-index l.rows) ≡ l.keys ++ rest_keys l.rests l.rows
