-- How many binary digits a number has.
use Rattle.std.proofs.Common.{◌≡◌, ℕ, zero, suc, ◌+◌, ◌-◌, ◌*◌, ◌/◌, ◌^◌, ◌<◌, ◌≤◌, refl, arith}
use Rattle.std.proofs.Math.Nat.{pow-suc}
use Rattle.std.proofs.lemmas.Int.Digits.{length-digits_of_step}
use Rattle.std.proofs.lemmas.Nat.{leading_length, pow_pos}
use Rattle.std.specs.Int.Count.{count_leading_zeros}
use Rattle.key_names.specs.Kernel.InputTimer.{binary_digits}

-- if n is below 2^m, and 2 n + 1 is at least 2^m, then n has m binary digits
pub binary_digits-between : (m n : ℕ) → n < 2 ^ m → 2 ^ m ≤ 2 * n + 1 → binary_digits n ≡ m
binary_digits-between zero zero below above = refl
binary_digits-between zero (suc n) below above = absurd (omega arith)
binary_digits-between (suc m) n below above =
    let power = pow-suc 2 m in
    let some : 0 < n = omega (arith, power, pow_pos m) in
    let half = binary_digits-between m (n / 2) (omega (arith, power)) (omega (arith, power)) in
    omega (arith, length-digits_of_step 2 n (omega arith) some, half)

-- if n is below 2^k, write n with k binary digits. Then k minus the number of leading zeros is the number of binary
-- digits of n
pub binary_digits-leading : (k n : ℕ) → n < 2 ^ k → k - count_leading_zeros k n ≡ binary_digits n
binary_digits-leading k n fits =
    let found = leading_length k n fits in
    let is : binary_digits n ≡ found.0 = binary_digits-between found.0 n found.2 found.3 in
    omega (arith, found.1, is)
