use Rattle.std.proofs.Common.{ap, refl}
use Rattle.std.specs.Prelude.{length, option_map}
use Rattle.std.proofs.lemmas.Option.{slice_get_read}
use Rattle.key_audit.proofs.Index.{added}
use Rattle.key_audit.proofs.row_index.RowIndex.of.Goals as goal

pub loop-number-preserved : goal.loop-number-preserved
loop-number-preserved c =
    added c.args.rows.now c.loop-number.by_name c.insert.new.self c.loop-number.number _
    (ap (option_map (λ row. row.key))
    (slice_get_read c.args.rows.now (length c.args.rows.now) c.loop-number.number c.index-rows-number.result refl
    c.loop-number-test.true c.index-rows-number.is))
    c.in_ok-insert.ensures.updates c.loop-number.invariant
