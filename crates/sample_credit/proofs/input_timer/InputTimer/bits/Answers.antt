use Rattle.std.proofs.Common.{◌≡◌, refl, arith, w64, pos, ◌-ℤ◌, to_z, of_z}
use Rattle.std.proofs.lemmas.Int.{ints}
use Rattle.sample_credit.proofs.input_timer.InputTimer.bits.Goals as goal

pub returns : goal.returns
returns c =
    let kept = c.self.inside in
    let now_near = c.requires in
    let time_near = c.self.invariant.time_near in
    let delta_near = c.self.invariant.delta_near in
    let delta2_near = c.self.invariant.delta2_near in
    let delta = pos c.args.now -ℤ pos kept.last_time in
    let delta2 = delta -ℤ kept.last_delta in
    let delta3 = delta2 -ℤ kept.last_delta2 in
    let first : to_z w64 (of_z w64 (to_z w64 c.args.now -ℤ to_z w64 kept.last_time)) ≡ delta = omega (arith, ints) in
    let second : to_z w64 (of_z w64 (delta -ℤ to_z w64 (of_z w64 kept.last_delta))) ≡ delta2 = omega (arith, ints) in
    let third : to_z w64 (of_z w64 (delta2 -ℤ to_z w64 (of_z w64 kept.last_delta2))) ≡ delta3 = omega (arith, ints) in
    record {
      bits = rw (← c.self.view_is) (rw (first, second, third) at c.bits_of.ensures);
      kept = rw (first, second, ← c.self.view_is) refl;
    }
