use Rattle.std.proofs.Common.{ℕ, List, ◌++◌, refl, ap, ◌∙◌, subst}
use Rattle.key_names.specs.Lanes.PoolList.{PoolState}
use Rattle.lane_table.specs.declared.values.LaneState.{LaneState}
use Rattle.lane_table.specs.Meaning.{ValueRepresents}
use Rattle.input_pool.specs.PoolConforms.{PoolConforms}
use Rattle.input_pool.proofs.Callers.{mixed, mixed-mixed}
use Rattle.rng_core.proofs.lane_values.mix_device.Goals as goal

pub returns : goal.returns
returns c = λ s h. let k = subst (λ (z : LaneState). ValueRepresents 0 z s) c.in-Pool.is h in let text = c.args.text.now
    in (
      refl,
      record {
        pool = subst (λ (z : PoolState). PoolConforms c.mix-in-Pool.new.self z)
            (mixed-mixed s.pool c.to_le_bytes.result text ∙ ap (λ (l : List ℕ). mixed s.pool (l ++ text))
            c.to_le_bytes.ensures)
            (c.mix-in-Pool.ensures (mixed s.pool c.to_le_bytes.result) (c.mix.ensures s.pool k.1.pool));
        value = k.1.value;
        timer = k.1.timer;
      },
    )
