-- What an input timer keeps of past input events.
use Rattle.std.specs.Prelude.{ℕ, ◌<◌, ◌^◌, ℤ, nat_abs}
use Rattle.key_names.specs.Kernel.InputTimer.{InputTimer}

-- the value of the last input event, and the timer of input events
pub record LastInput : Type 0 where
  pub value : ℕ
  pub timer : InputTimer

-- the last moment, `time`, is below 2^40. In absolute value, the last difference of two moments, `delta`, is below
-- 2^40, and the last difference of two such differences, `delta2`, is below 2^41
pub record IsNear (time : ℕ) (delta delta2 : ℤ) : Type 0 where
  pub time_near : time < 2 ^ 40
  pub delta_near : nat_abs delta < 2 ^ 40
  pub delta2_near : nat_abs delta2 < 2 ^ 41
