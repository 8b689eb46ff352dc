use Rattle.std.proofs.Common.{◌≡◌, ◌++◌, drop}
use Rattle.std.specs.BTreeSet.{contains}
use Rattle.key_names.specs.contracts.names.KeyNameOrd.TheImpl.{ghosts as names}
use Rattle.key_audit.specs.Reach.{copied_bytes}
use Rattle.key_audit.proofs.reach.copied_bytes.Given as goal

abbrev pub invariant-loop-row : goal.invariant-loop-row
invariant-loop-row l =
    l.all.items ++ copied_bytes l.moments (contains names.cmp l.known) l.rests (drop l.row-index l.rows)
    ≡ copied_bytes l.moments (contains names.cmp l.known) l.rests l.rows
