use Rattle.std.proofs.Common.{refl, subst, ◌∙◌}
use Rattle.lane_table.specs.declared.values.LaneState.{LaneState}
use Rattle.lane_table.specs.Meaning.{ValueRepresents}
use Rattle.input_pool.proofs.Callers.{PoolConforms-mix, crossing-mix, mixed}
use Rattle.rng_core.proofs.lane_values.mix_and_credit.Goals as goal

pub returns-clause-made : goal.returns-clause-made
returns-clause-made c = λ s h. let k = subst (λ (z : LaneState). ValueRepresents 0 z s) c.in-Pool.is h in (
  refl,
  record {
    pool = PoolConforms-mix c.credit.new.self s.pool c.args.text.now c.args.bits
        (c.credit.ensures.credited (mixed s.pool c.args.text.now) (c.mix.ensures s.pool k.1.pool));
    value = k.1.value;
    timer = k.1.timer;
  },
)

pub returns-clause-crossed : goal.returns-clause-crossed
returns-clause-crossed c = λ s h. let k = subst (λ (z : LaneState). ValueRepresents 0 z s) c.in-Pool.is h in let m =
    c.mix.ensures s.pool k.1.pool in
    c.credit.ensures.crossed ∙ crossing-mix c.in-Pool.lane.pool c.mix.new.self c.credit.new.self s.pool c.args.text.now
    c.args.bits k.1.pool m (c.credit.ensures.credited (mixed s.pool c.args.text.now) m)
