use Rattle.std.proofs.Common.{◌≡◌, ◌++◌, drop}
use Rattle.std.specs.List.{flat_map}
use Rattle.key_audit.specs.Reach.{copied_piece}
use Rattle.key_audit.proofs.reach.push_row.Given as goal

abbrev pub invariant-loop-piece : goal.invariant-loop-piece
invariant-loop-piece l =
    l.all.items ++ flat_map (copied_piece l.moments l.is_known l.rests) (drop l.piece-index l.row.pieces.items)
    ≡ l.initial.all.items ++ flat_map (copied_piece l.moments l.is_known l.rests) l.row.pieces.items
