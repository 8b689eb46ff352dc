-- The pieces of keys, and likewise their endings, are sorted by the names of the keys.
use Rattle.std.specs.Prelude.{List, IsSortedByKey}
use Rattle.key_names.specs.contracts.names.KeyNameOrd.TheImpl.{ghosts as names}
use Rattle.audit_keys.specs.declared.lives.Ending.{Ending}
use Rattle.audit_keys.specs.declared.rows.KeyPiece.{KeyPiece}

abbrev pub PiecesByKey : List KeyPiece → Type 0
PiecesByKey pieces = IsSortedByKey (λ piece. piece.span.key) names.cmp pieces

abbrev pub EndingsByKey : List Ending → Type 0
EndingsByKey endings = IsSortedByKey (λ ending. ending.key) names.cmp endings
