use Rattle.std.proofs.Common.{◌++◌, ◌∷◌, [], sym, ap, ◌∙◌, append-nil}
use Rattle.std.specs.Prelude.{map}
use Rattle.std.proofs.lemmas.List.{take_all}
use Rattle.audit_keys.specs.Rows.{used_piece}
use Rattle.audit_keys.proofs.Along.{map_more}
use Rattle.audit_keys.proofs.rows.push_used.Goals as goal

pub loop-used-init : goal.loop-used-init
loop-used-init c = sym (append-nil _)

pub loop-used-preserved : goal.loop-used-preserved
loop-used-preserved c =
    map_more used_piece c.args.uses.now c.loop-used.used-index _ _ _ _ c.loop-used-test.true c.loop-used.invariant
    (c.in_ok-push.ensures.items ∙ ap (λ p. c.loop-used.pieces.items ++ p ∷ []) c.used_piece.ensures)

pub returns : goal.returns
returns c =
    c.loop-used.invariant
    ∙ ap (λ xs. c.args.pieces.now.items ++ map used_piece xs)
    (take_all c.loop-used.used-index c.args.uses.now c.loop-used-test.false)
