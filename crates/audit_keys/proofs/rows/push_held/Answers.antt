use Rattle.std.proofs.Common.{◌++◌, sym, ap, ◌∙◌, append-nil}
use Rattle.std.specs.Prelude.{map}
use Rattle.std.proofs.lemmas.List.{take_all}
use Rattle.audit_keys.specs.Rows.{held_piece}
use Rattle.audit_keys.proofs.Along.{map_more}
use Rattle.audit_keys.proofs.rows.push_held.Goals as goal

pub loop-rest-init : goal.loop-rest-init
loop-rest-init c = sym (append-nil _)

pub loop-rest-preserved : goal.loop-rest-preserved
loop-rest-preserved c =
    map_more held_piece c.args.rests.now c.loop-rest.rest-index _ _ _ _ c.loop-rest-test.true c.loop-rest.invariant
    c.in_ok-push.ensures.items

pub returns : goal.returns
returns c =
    c.loop-rest.invariant
    ∙ ap (λ xs. c.args.pieces.now.items ++ map held_piece xs)
    (take_all c.loop-rest.rest-index c.args.rests.now c.loop-rest-test.false)
