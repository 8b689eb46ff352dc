use Rattle.std.proofs.Common.{◌≡◌, ◌++◌, drop}
use Rattle.std.specs.BTreeSet.{contains}
use Rattle.key_names.specs.contracts.names.KeyNameOrd.TheImpl.{ghosts as names}
use Rattle.key_audit.specs.Reach.{next_lines}
use Rattle.key_audit.proofs.reach.put_next.Given as goal

abbrev pub invariant-loop-row : goal.invariant-loop-row
invariant-loop-row l =
    l.text.bytes.items
    ++ next_lines l.moments (contains names.cmp l.held) (contains names.cmp l.known) (drop l.row-index l.rows)
    ≡ l.initial.text.bytes.items ++ next_lines l.moments (contains names.cmp l.held) (contains names.cmp l.known) l.rows
