-- Each value below the bound `c` has the same number of accepted words.
--
-- A word `r` is accepted and has the value `v` if `c * r` is at least `v * 2^32 + 2^32 % c` and below `(v + 1) * 2^32`.
-- This range has `c * (2^32 / c)` numbers, and `2^32 / c` of these are multiples of `c`.
use Rattle.std.proofs.Common.{◌≡◌, ◌≢◌, ◌<◌, ◌≤◌, ◌+◌, ◌-◌, ◌*◌, ◌/◌, ◌%◌, ℕ, zero, suc, Bool, true, false, cond, refl, ap, ◌∙◌, arith, eq-eqb, nat_eq, nat_le, ⊎_elim}
use Rattle.std.proofs.lemmas.Bool.{cases_lt, le-leb, lt-leb, ne_eqb}
use Rattle.std.proofs.lemmas.Nat.{mod_below}
use Rattle.std.proofs.Math.Nat.{le-div_iff_mul-le, add-mul-div_right, div-add-mod}
use Rattle.draw_below.specs.Draws.{gives_value, count, EachValueIsAsLikely}

-- the least number `n` for which `c * n` is at least `x`
abbrev ceiling : ℕ → ℕ → ℕ
ceiling c x = (x + (c - 1)) / c

below_ceiling : (c x r : ℕ) → 0 < c → r < ceiling c x → c * r < x
below_ceiling c x r pos h =
    let whole : suc r * c ≤ x + (c - 1) = (le-div_iff_mul-le pos).0 (omega arith) in omega arith

ceiling_below : (c x r : ℕ) → 0 < c → ceiling c x ≤ r → x ≤ c * r
ceiling_below c x r pos h =
    ⊎_elim
    (λ low.
    let whole : suc r * c ≤ x + (c - 1) = omega arith in
    let past : suc r ≤ ceiling c x = (le-div_iff_mul-le pos).1 whole in
    omega arith)
    (λ high. high) (cases_lt (c * r) x)

abbrev passes : ℕ → ℕ → ℕ → Bool
passes t x v = cond (nat_le t (x % 4294967296)) (nat_eq (x / 4294967296) v) false

within : (t x v : ℕ) → v * 4294967296 + t ≤ x → x < v * 4294967296 + 4294967296 → passes t x v ≡ true
within t x v low high =
    let quotient : x / 4294967296 ≡ v = omega arith in
    let rest : t ≤ x % 4294967296 = omega arith in
    rw (le-leb t (x % 4294967296) rest) (eq-eqb (x / 4294967296) v quotient)

neither : (b : Bool) → cond b false false ≡ false
neither true = refl
neither false = refl

other_value : (t x v : ℕ) → x / 4294967296 ≢ v → passes t x v ≡ false
other_value t x v other = rw (ne_eqb (x / 4294967296) v other) (neither (nat_le t (x % 4294967296)))

under : (t x v : ℕ) → x < v * 4294967296 + t → t < 4294967296 → passes t x v ≡ false
under t x v low small =
    ⊎_elim (λ less. other_value t x v (omega arith))
    (λ more. let rest : x % 4294967296 < t = omega arith in rw (lt-leb t (x % 4294967296) rest) refl)
    (cases_lt x (v * 4294967296))

over : (t x v : ℕ) → v * 4294967296 + 4294967296 ≤ x → passes t x v ≡ false
over t x v high = other_value t x v (omega arith)

passes_is : (c v r : ℕ) → 0 < c → gives_value c v r ≡ passes (4294967296 % c) (c * r) v
passes_is c v r pos = let some : c ≢ 0 = omega arith in simp (ne_eqb c 0 some) refl

-- let `a` be the first accepted word with the value `v`, and `b` the first word after all such words. Then the number
-- of such words below `n` is `(n - a) - (n - b)`
counted : (c v n a b : ℕ) → 0 < c → 4294967296 % c < 4294967296 →
    a ≡ ceiling c (v * 4294967296 + 4294967296 % c) → b ≡ ceiling c (v * 4294967296 + 4294967296) →
    count c v n ≡ (n - a) - (n - b)
unfolding count
counted c v zero a b pos small from to = omega arith
counted c v (suc n) a b pos small from to =
    let before = counted c v n a b pos small from to in
    let one : (b : Bool) → gives_value c v n ≡ b → count c v (suc n) ≡ count c v n + cond b 1 0 =
    λ b e. ap (λ p. count c v n + cond p 1 0) e in
    ⊎_elim
    (λ low.
    let short : c * n < v * 4294967296 + 4294967296 % c =
    below_ceiling c (v * 4294967296 + 4294967296 % c) n pos (omega arith) in
    let more = one false (passes_is c v n pos ∙ under (4294967296 % c) (c * n) v short small) in
    omega arith)
    (λ reached.
    let long : v * 4294967296 + 4294967296 % c ≤ c * n =
    ceiling_below c (v * 4294967296 + 4294967296 % c) n pos (omega arith) in
    ⊎_elim
    (λ low.
    let short : c * n < v * 4294967296 + 4294967296 =
    below_ceiling c (v * 4294967296 + 4294967296) n pos (omega arith) in
    let more = one true (passes_is c v n pos ∙ within (4294967296 % c) (c * n) v long short) in
    omega arith)
    (λ past.
    let following : v * 4294967296 + 4294967296 ≤ c * n =
    ceiling_below c (v * 4294967296 + 4294967296) n pos (omega arith) in
    let more = one false (passes_is c v n pos ∙ over (4294967296 % c) (c * n) v following) in
    omega arith)
    (cases_lt n b))
    (cases_lt n a)

pub each_value_is_as_likely : EachValueIsAsLikely
each_value_is_as_likely c v low fits =
    let pos : 0 < c = omega arith in
    let rest : 4294967296 % c < 4294967296 = let part = mod_below 4294967296 c pos in omega arith in
    let a : ℕ = ceiling c (v * 4294967296 + 4294967296 % c) in
    let b : ℕ = ceiling c (v * 4294967296 + 4294967296) in
    let parts : v * 4294967296 + 4294967296 + (c - 1) ≡ v * 4294967296 + 4294967296 % c + (c - 1) + 4294967296 / c * c =
    let whole = div-add-mod 4294967296 c in omega arith in
    let apart : b ≡ a + 4294967296 / c =
    ap (λ m. m / c) parts
    ∙ add-mul-div_right (v * 4294967296 + 4294967296 % c + (c - 1)) (4294967296 / c) pos in
    let within_words : b ≤ 4294967296 = ⊎_elim
    (λ out. let short = below_ceiling c (v * 4294967296 + 4294967296) 4294967296 pos out in omega arith) (λ h. h)
    (cases_lt 4294967296 b) in
    let total = counted c v 4294967296 a b pos rest refl refl in
    omega arith
