use Rattle.std.proofs.Common.{◌≡◌, ◌++◌, drop}
use Rattle.std.specs.Prelude.{filter}
use Rattle.std.specs.List.{flat_map}
use Rattle.key_audit.specs.Live.{became_key}
use Rattle.key_audit.specs.Texts.{piece_text}
use Rattle.key_audit.proofs.held.put_became.Given as goal

abbrev pub invariant-loop-piece : goal.invariant-loop-piece
invariant-loop-piece l =
    l.text.bytes.items
    ++ flat_map (piece_text l.moments) (filter (λ piece. became_key piece.fate) (drop l.piece-index l.pieces))
    ≡ l.initial.text.bytes.items ++ flat_map (piece_text l.moments) (filter (λ piece. became_key piece.fate) l.pieces)
