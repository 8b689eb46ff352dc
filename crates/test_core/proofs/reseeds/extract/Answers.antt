use Rattle.std.proofs.Common.{refl, subst}
use Rattle.lane_table.specs.declared.values.LaneState.{LaneState}
use Rattle.lane_table.specs.Meaning.{ValueRepresents}
use Rattle.test_core.proofs.reseeds.extract.Goals as goal

pub returns-clause-made : goal.returns-clause-made
returns-clause-made c = λ s place h. let k = subst (λ (z : LaneState). ValueRepresents 0 z s) c.in-Pool.is h in
    (refl, record { pool = c.extract.ensures.rekeyed s.pool place k.1.pool; value = k.1.value; timer = k.1.timer })
