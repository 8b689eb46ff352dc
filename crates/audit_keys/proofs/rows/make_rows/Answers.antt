use Rattle.std.proofs.Common.{◌≡◌, List, ap, subst, ◌∙◌}
use Rattle.std.specs.Prelude.{IsPermutation, option_map, slice_get}
use Rattle.std.proofs.lemmas.List.Elements.{All-weaker}
use Rattle.key_names.specs.declared.names.KeyName.{KeyName}
use Rattle.audit_keys.specs.declared.lives.Ending.{Ending}
use Rattle.audit_keys.specs.declared.rows.KeyPiece.{KeyPiece}
use Rattle.audit_keys.specs.declared.rows.KeyRow.{KeyRow}
use Rattle.audit_keys.specs.Rows.{pieces_of, endings_of, all_pieces, IsRow}
use Rattle.audit_keys.proofs.rows.make_rows.Goals as goal

-- if pieces and endings are reordered, but the pieces and endings of each key keep their order, a right row (`IsRow`)
-- stays right
row_moves : (pieces pieces' : List KeyPiece) (endings endings' : List Ending) →
    ((key : KeyName) → pieces_of key pieces' ≡ pieces_of key pieces) →
    ((key : KeyName) → endings_of key endings' ≡ endings_of key endings) →
    (row : KeyRow) → IsRow pieces' endings' row → IsRow pieces endings row
row_moves pieces pieces' endings endings' same ends row h = record {
  ended_by = h.ended_by ∙ ap (λ (es : List Ending). option_map (λ (e : Ending). e.by) (slice_get es 0)) (ends row.key);
  all_of = subst (λ (ps : List KeyPiece). IsPermutation ps row.pieces.items) (same row.key) h.all_of;
  ordered = h.ordered;
}

pub returns-clause-rows : goal.returns-clause-rows
returns-clause-rows c =
    let listed = c.args.listed in
    All-weaker (IsRow _ _) (IsRow (all_pieces listed) listed.lives.endings.items)
    (row_moves (all_pieces listed) _ listed.lives.endings.items _
    (λ key. ap (pieces_of key) c.deref-3.ensures.value ∙ c.in_ok-pieces.ensures.same key)
    (λ key. ap (endings_of key) c.deref-4.ensures.value ∙ c.in_ok-endings.ensures.same key
    ∙ ap (endings_of key) c.deref.ensures.value))
    c.in_ok-rows.rows.items c.in_ok-rows.ensures.rows
