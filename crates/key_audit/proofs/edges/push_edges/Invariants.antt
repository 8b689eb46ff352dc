use Rattle.std.proofs.Common.{◌≡◌, ◌++◌, drop}
use Rattle.std.specs.List.{flat_map}
use Rattle.key_audit.specs.Edges.{fate_edges, row_edges}
use Rattle.key_audit.proofs.edges.push_edges.Given as goal

abbrev pub invariant-loop-piece : goal.invariant-loop-piece
invariant-loop-piece l =
    l.edges.items ++ flat_map (λ piece. fate_edges l.row.key piece.fate) (drop l.piece-index l.row.pieces.items)
    ≡ l.initial.edges.items ++ row_edges l.row
