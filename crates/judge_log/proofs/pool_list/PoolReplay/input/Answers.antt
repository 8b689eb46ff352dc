use Rattle.std.proofs.Common.{◌≢◌, ◌≤◌, ◌<◌, arith, rules}
use Rattle.key_names.specs.Lanes.PoolList.{PoolState}
use Rattle.judge_log.specs.PoolLane.{LaneConforms}
use Rattle.judge_log.proofs.Inputs.{untimed, timed}
use Rattle.judge_log.proofs.pool_list.PoolReplay.input.Goals as goal

pub returns-then-bits-ge-READY_BITS : goal.returns-then-bits-ge-READY_BITS
returns-then-bits-ge-READY_BITS c =
    λ (s : PoolState) (h : LaneConforms c.args.self.now s). let fresh : c.args.value ≢ c.args.self.now.timer.value =
    search rules in let full : 256 ≤ c.mix.new.self.bits = omega arith in
    untimed s c.args.word c.args.kind c.args.code c.args.value c.args.now c.args.self.now.pool c.mix.new.self
    c.args.self.now.timer c.fresh.new.self c.input_sample.result
    record {
      pool = h.pool;
      value_stood = h.value;
      timer_stood = h.timer;
      fresh = fresh;
      keeps = c.fresh.ensures.kept;
      bytes = c.input_sample.ensures;
      mixes = c.mix.ensures s h.pool;
    } full

pub returns : goal.returns
returns c = λ (s : PoolState) (h : LaneConforms c.args.self.now s). let fresh : c.args.value ≢
    c.args.self.now.timer.value = search rules in let room : c.mix.new.self.bits < 256 = omega arith in let m =
    c.mix.ensures s h.pool in
    timed s c.args.word c.args.kind c.args.code c.args.value c.args.now c.args.self.now.pool c.mix.new.self
    c.args.self.now.timer c.fresh.new.self c.input_sample.result
    record {
      pool = h.pool;
      value_stood = h.value;
      timer_stood = h.timer;
      fresh = fresh;
      keeps = c.fresh.ensures.kept;
      bytes = c.input_sample.ensures;
      mixes = m;
    }
    c.credit.new.self c.bits-bits.new.self c.bits-bits.result room c.bits-bits.ensures.bits
    (c.credit.ensures.credited _ m) c.bits-bits.ensures.kept
