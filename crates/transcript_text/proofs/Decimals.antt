-- How many digits a number has, and what a text becomes if a number is written over a part of it.
use Rattle.std.proofs.Common.{ℕ, zero, suc, ◌≡◌, ◌+◌, ◌*◌, ◌/◌, ◌%◌, ◌^◌, ◌≤◌, ◌<◌, List, [], ◌∷◌, ◌++◌, length, take, drop, ap, ◌∙◌, length-append, arith}
use Rattle.std.specs.Prelude.{decimal}
use Rattle.std.proofs.Math.Nat.{pow-succ'}
use Rattle.std.proofs.Math.Seq.{take-add, take-append_seam}
use Rattle.std.proofs.lemmas.Fmt.{decimal_step}
use Rattle.itoa.proofs.Decimal.{length_one}

some_power : (k : ℕ) → 1 ≤ 10 ^ k
some_power zero = omega arith
some_power (suc k) = omega (arith, pow-succ' 10 k, some_power k)

-- if `n` is at least 10 ^ k and below 10 ^ (k + 1), `n` has k + 1 decimal digits
pub digits_counted : (k n : ℕ) → 10 ^ k ≤ n → n < 10 * 10 ^ k → n < 2 ^ 64 → length (decimal n) ≡ k + 1
digits_counted zero n low high fits = length_one n (omega arith)
digits_counted (suc k) n low high fits =
    let power = pow-succ' 10 k in
    let least : 10 * 10 ^ k ≤ n = omega (arith, power, low) in
    let some = some_power k in
    let most : n < 10 * (10 * 10 ^ k) = omega (arith, power, high) in
    let front = digits_counted k (n / 10) (omega arith) (omega arith) (omega arith) in
    ap length (decimal_step n (omega arith) fits) ∙ length-append (decimal (n / 10)) ((48 + n % 10) ∷ []) ∙ omega (arith, front)

-- if `digits` are written over the text `old` from byte `len` on, `new` begins with the first `len` bytes of `old`, and
-- then `digits`
pub written_on : (len : ℕ) (digits old new rest : List ℕ) → take len new ≡ take len old → drop len new ≡ digits ++ rest
    → take (len + length digits) new ≡ take len old ++ digits
written_on len digits old new rest before following =
    take-add len (length digits) new
    ∙ ap (λ (xs : List ℕ). xs ++ take (length digits) (drop len new)) before
    ∙ ap (λ (xs : List ℕ). take len old ++ take (length digits) xs) following
    ∙ ap (λ (xs : List ℕ). take len old ++ xs) (take-append_seam digits rest)
