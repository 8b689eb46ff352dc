use Rattle.std.proofs.Common.{◌≡◌, ◌++◌, drop}
use Rattle.std.specs.List.{flat_map}
use Rattle.key_audit.specs.Reach.{rest_key}
use Rattle.key_audit.proofs.reach.push_rest_keys.Given as goal

abbrev pub invariant-loop-piece : goal.invariant-loop-piece
invariant-loop-piece l =
    l.keys.items ++ flat_map (λ piece. rest_key l.rests piece piece.fate) (drop l.piece-index l.row.pieces.items)
    ≡ l.initial.keys.items ++ flat_map (λ piece. rest_key l.rests piece piece.fate) l.row.pieces.items
