use Rattle.std.proofs.Common.{◌≡◌, ◌++◌, drop}
use Rattle.std.specs.List.{flat_map}
use Rattle.key_audit.specs.Texts.{piece_text}
use Rattle.key_audit.proofs.text.TextBuffer.row.Given as goal

abbrev pub invariant-loop-piece : goal.invariant-loop-piece
invariant-loop-piece l =
    l.self.bytes.items ++ flat_map (piece_text l.moments) (drop l.piece-index l.row.pieces.items)
    ≡ l.initial.self.bytes.items ++ flat_map (piece_text l.moments) l.row.pieces.items
