use Rattle.std.proofs.Common.{◌++◌, ◌∷◌, [], take, sym, subst, ap, ◌∙◌}
use Rattle.std.specs.Prelude.{All, map}
use Rattle.std.proofs.lemmas.List.{map-append, take_all, take_more}
use Rattle.std.proofs.lemmas.List.Elements.{All-push}
use Rattle.audit_keys.specs.Rows.{birth_of, IsRow}
use Rattle.audit_keys.proofs.rows.rows_of.Goals as goal

pub loop-birth-preserved : goal.loop-birth-preserved
loop-birth-preserved c =
    let h = c.loop-birth.invariant in
    let row = c.in_ok-row_of.field-0 in
    record {
      births = ap (map birth_of) c.in_ok-push.ensures.items
          ∙ map-append birth_of c.loop-birth.rows.items (row ∷ [])
          ∙ ap (λ bs. bs ++ birth_of row ∷ []) h.births
          ∙ ap (λ b. take c.loop-birth.birth-index c.args.births.now ++ b ∷ []) c.in_ok-row_of.ensures.birth
          ∙ sym (take_more c.args.births.now c.loop-birth.birth-index _ c.loop-birth-test.true);
      rows = subst (All (IsRow c.args.pieces.now c.args.endings.now)) (sym c.in_ok-push.ensures.items)
          (All-push (IsRow c.args.pieces.now c.args.endings.now) c.loop-birth.rows.items row h.rows
          c.in_ok-row_of.ensures.row);
    }

pub returns-clause-births : goal.returns-clause-births
returns-clause-births c =
    c.loop-birth.invariant.births ∙ take_all c.loop-birth.birth-index c.args.births.now c.loop-birth-test.false
