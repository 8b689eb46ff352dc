-- `2^32 - c` and `2^32` have the same remainder when divided by `c`. So the code finds `2^32 mod c` in 32-bit
-- arithmetic.
use Rattle.std.proofs.Common.{◌≡◌, ◌<◌, ◌+◌, ◌*◌, ◌/◌, ◌%◌, ℕ, arith, ap, sym, ◌∙◌, lit<}
use Rattle.std.proofs.Math.Nat.{add-mod_right, div-lt_iff_lt-mul, mul-lt-mul_of_pos_left}

pub negative_mod : (n c : ℕ) → (n + c) % 4294967296 ≡ 0 → n < 4294967296 → 0 < c → c < 4294967296 → n % c ≡ 4294967296 % c
negative_mod n c whole small pos low =
    let sum : n + c ≡ 4294967296 = omega arith in
    sym (add-mod_right n c) ∙ ap (λ m. m % c) sum

-- the value `c * r / 2^32` of the word `r` is below the bound `c`
pub value_below : (c r : ℕ) → 0 < c → r < 4294967296 → c * r / 4294967296 < c
value_below c r pos low = (div-lt_iff_lt-mul (lit< tt)).1 (mul-lt-mul_of_pos_left low pos)
