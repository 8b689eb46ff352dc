use Rattle.std.proofs.Common.{◌≡◌, ◌++◌, drop, map, Some}
use Rattle.key_audit.specs.Live.{name_at}
use Rattle.key_audit.proofs.held.held_rows.Given as goal

abbrev pub invariant-loop-held : goal.invariant-loop-held
invariant-loop-held l =
    map (name_at l.index.rows.now) l.numbers.items ++ map (λ held. Some held.key) (drop l.held-index l.keys)
    ≡ map (λ held. Some held.key) l.keys
