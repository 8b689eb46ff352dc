use Rattle.std.proofs.Common.{◌≢◌, ◌≤◌, ◌<◌, ◌∙◌, arith, rules}
use Rattle.key_names.specs.Lanes.PoolList.{PoolState}
use Rattle.lane_table.specs.Meaning.{PoolLaneConforms}
use Rattle.rng_core.proofs.Inputs.{untimed, timed, crosses}
use Rattle.rng_core.proofs.lane_values.mix_sample.Goals as goal

pub returns-then-bits-ge-READY_BITS-clause-made : goal.returns-then-bits-ge-READY_BITS-clause-made
returns-then-bits-ge-READY_BITS-clause-made c =
    λ (s : PoolState) (h : PoolLaneConforms c.args.lane.now s). let fresh : c.args.value ≢ c.args.lane.now.timer.value =
    search rules in let full : 256 ≤ c.mix.new.self.bits = omega arith in
    let k = untimed s c.args.word c.args.kind c.args.code c.args.value c.args.now c.args.lane.now.pool c.mix.new.self
    c.args.lane.now.timer c.fresh.new.self c.input_sample.result
    record {
      stood = record { pool = h.pool; value = h.value; timer = h.timer };
      fresh = fresh;
      keeps = c.fresh.ensures.kept;
      bytes = c.input_sample.ensures;
      mixes = c.mix.ensures s h.pool;
    } full in
    record { pool = k.pool; value = k.value; timer = k.timer }

pub returns-clause-made : goal.returns-clause-made
returns-clause-made c = λ (s : PoolState) (h : PoolLaneConforms c.args.lane.now s). let fresh : c.args.value ≢
    c.args.lane.now.timer.value = search rules in let room : c.mix.new.self.bits < 256 = omega arith in let m =
    c.mix.ensures s h.pool in
    let k = timed s c.args.word c.args.kind c.args.code c.args.value c.args.now c.args.lane.now.pool c.mix.new.self
    c.args.lane.now.timer c.fresh.new.self c.input_sample.result
    record {
      stood = record { pool = h.pool; value = h.value; timer = h.timer };
      fresh = fresh;
      keeps = c.fresh.ensures.kept;
      bytes = c.input_sample.ensures;
      mixes = m;
    }
    c.credit.new.self c.bits-bits.new.self c.bits-bits.result room c.bits-bits.ensures.bits
    (c.credit.ensures.credited _ m) c.bits-bits.ensures.kept in
    record { pool = k.pool; value = k.value; timer = k.timer }

pub returns-clause-crossed : goal.returns-clause-crossed
returns-clause-crossed c = λ (s : PoolState) (h : PoolLaneConforms c.args.lane.now s). let fresh : c.args.value ≢
    c.args.lane.now.timer.value = search rules in let room : c.mix.new.self.bits < 256 = omega arith in let m =
    c.mix.ensures s h.pool in
    c.credit.ensures.crossed ∙ crosses s c.args.word c.args.kind c.args.code c.args.value c.args.now
    c.args.lane.now.pool c.mix.new.self c.args.lane.now.timer c.fresh.new.self c.input_sample.result
    record {
      stood = record { pool = h.pool; value = h.value; timer = h.timer };
      fresh = fresh;
      keeps = c.fresh.ensures.kept;
      bytes = c.input_sample.ensures;
      mixes = m;
    }
    c.credit.new.self c.bits-bits.new.self c.bits-bits.result room c.bits-bits.ensures.bits
    (c.credit.ensures.credited _ m)
