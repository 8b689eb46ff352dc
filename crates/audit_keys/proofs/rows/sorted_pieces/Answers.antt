use Rattle.std.proofs.Common.{ap, ◌∙◌, rules}
use Rattle.std.proofs.lemmas.Fn.{always_returns_same}
use Rattle.key_names.specs.declared.names.KeyName.{KeyName}
use Rattle.audit_keys.specs.declared.rows.KeyPiece.{KeyPiece}
use Rattle.audit_keys.specs.declared.rows.Fate.TheVariants.{Held}
use Rattle.audit_keys.specs.Rows.{pieces_of}
use Rattle.audit_keys.proofs.Groups.{group_stays}
use Rattle.audit_keys.proofs.rows.sorted_pieces.Goals as goal

abbrev key_of : KeyPiece → KeyName
key_of piece = piece.span.key

abbrev of_key : KeyName → KeyPiece
of_key key = record { span = record { key = key; from = 0; len = 0 }; fate = Held }

pub returns-clause-sorted : goal.returns-clause-sorted
returns-clause-sorted c = c.in_ok-sort_by_key.ensures.sorted key_of (always_returns_same _ _ _ (λ a r q k. search rules))

pub returns-clause-same : goal.returns-clause-same
returns-clause-same c = λ key.
    group_stays key_of (of_key key) c.in_ok-pieces.pieces.items c.sort_by_key.new.self.items
    (c.sort_by_key.ensures.stable key_of (always_returns_same _ _ _ (λ a r q k. search rules)) (of_key key))
    ∙ ap (pieces_of key) c.in_ok-pieces.ensures
