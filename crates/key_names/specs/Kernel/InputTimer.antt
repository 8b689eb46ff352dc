-- How many bits an input event credits (add_timer_randomness), and the number that the event mixes in.
use Rattle.std.specs.Prelude.{ℕ, ◌/◌, ◌*◌, ◌^◌, ◌%◌, min, ℤ, pos, ◌-ℤ◌, nat_abs, length, bit_xor}
use Rattle.std.specs.Int.Digits.{digits_of}

-- the last moment in milliseconds, the last difference of two moments, and the last difference of two such differences
pub record InputTimer : Type 0 where
  pub last_time : ℕ
  pub last_delta : ℤ
  pub last_delta2 : ℤ

abbrev pub timer_start : InputTimer
timer_start = record { last_time = 0; last_delta = pos 0; last_delta2 = pos 0 }

abbrev pub delta : InputTimer → ℕ → ℤ
delta t now = pos now -ℤ pos t.last_time

abbrev pub delta2 : InputTimer → ℕ → ℤ
delta2 t now = delta t now -ℤ t.last_delta

abbrev pub delta3 : InputTimer → ℕ → ℤ
delta3 t now = delta2 t now -ℤ t.last_delta2

abbrev pub input_timer_after : InputTimer → ℕ → InputTimer
input_timer_after t now = record { last_time = now; last_delta = delta t now; last_delta2 = delta2 t now }

-- the number of binary digits (fls)
abbrev pub binary_digits : ℕ → ℕ
binary_digits n = length (digits_of 2 n)

-- the least of the three differences
abbrev pub least_delta : InputTimer → ℕ → ℕ
least_delta t now = min (nat_abs (delta t now)) (min (nat_abs (delta2 t now)) (nat_abs (delta3 t now)))

-- the bits that an input event at this moment credits, at most 11. Half the least difference is cut to 32 bits, and the
-- number of its binary digits is credited (fls)
abbrev pub timer_bits : InputTimer → ℕ → ℕ
timer_bits t now = min (binary_digits (least_delta t now / 2 % 2 ^ 32)) 11

-- the number that an input event mixes in (add_input_randomness)
abbrev pub input_number : ℕ → ℕ → ℕ → ℕ
input_number kind code value = bit_xor (bit_xor (kind * 2 ^ 4) code) (bit_xor (code / 2 ^ 4) value)
