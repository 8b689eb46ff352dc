-- Lower-case hexadecimal digits decode to the bytes that they spell.
use Rattle.std.proofs.Common.{◌≡◌, ℕ, zero, suc, ◌+◌, ◌-◌, ◌*◌, ◌/◌, ◌%◌, ◌<◌, ◌≤◌, leb, Bool, true, false, ◌&&◌, inl, inr, Some, Ok, List, [], ◌∷◌, ◌++◌, drop, length, take, refl, sym, subst, ap, ◌∙◌, arith}
use Rattle.std.specs.Option.{is_some}
use Rattle.std.specs.Prelude.{◌↔◌, slice_index}
use Rattle.std.specs.Str.{bytes_eq}
use Rattle.std.proofs.lemmas.Bool.{and_parts, cases_lt, false_from_ne_true, false≢true, leb-true, or_cases}
use Rattle.std.proofs.lemmas.Slice.Eq.{bytes_eq-Decides}
use Rattle.std.proofs.lemmas.List.{get_or_past, take_all, take-append-le}
use Rattle.hex.proofs.HexLemmas.{decode_sized-encode_lower, length-encode_with}
use Rattle.hex.specs.Hex.{IsBytes, decode_sized, encode_lower, encode_with, lower_digits}
use Rattle.key_names.specs.Texts.ScriptFaults.{bytes_of}
use Rattle.key_names.specs.Texts.Spelling.{AllLower, hex, is_lower_digit}
use Rattle.key_names.proofs.Script.HexFields.{bytes_again, bytes_none, spells_letter, spells_number}

-- if `c` is a lower-case hexadecimal digit, it is digit `d` of the table, for some `d` below 16
place_of : (c : ℕ) → is_lower_digit c ≡ true → (d : ℕ) × (d < 16) × (slice_index lower_digits d ≡ c)
place_of c lower =
    elim (or_cases (leb 48 c && leb c 57) (leb 97 c && leb c 102) lower) [
      | inl number ↦
          let low = leb-true _ _ (and_parts (leb 48 c) (leb c 57) number).0 in
          let high = leb-true _ _ (and_parts (leb 48 c) (leb c 57) number).1 in
          (c - 48, omega arith, spells_number (c - 48) (omega arith) ∙ omega arith)
      | inr letter ↦
          let low = leb-true _ _ (and_parts (leb 97 c) (leb c 102) letter).0 in
          let high = leb-true _ _ (and_parts (leb 97 c) (leb c 102) letter).1 in
          (10 + (c - 97), omega arith, spells_letter (c - 97) (omega arith) ∙ omega arith)
    ]

pub encode_with-append : (t xs ys : List ℕ) → encode_with t (xs ++ ys) ≡ encode_with t xs ++ encode_with t ys
unfolding encode_with
encode_with-append t [] ys = refl
encode_with-append t (x ∷ xs) ys =
    ap (λ l. slice_index t (x / 16) ∷ slice_index t (x % 16) ∷ l) (encode_with-append t xs ys)

pub no_bytes : encode_lower [] ≡ []
unfolding encode_with
no_bytes = refl

-- a list of 2 n lower-case digits spells some bytes
pub digits_of_bytes : (n : ℕ) (digits : List ℕ) → length digits ≡ 2 * n → AllLower digits →
    (bytes : List ℕ) × (encode_lower bytes ≡ digits)
unfolding encode_with
digits_of_bytes zero [] even lower = ([], refl)
digits_of_bytes zero (h ∷ digits) even lower = absurd (omega arith)
digits_of_bytes (suc n) [] even lower = absurd (omega arith)
digits_of_bytes (suc n) (h ∷ []) even lower = absurd (omega arith)
digits_of_bytes (suc n) (h ∷ l ∷ digits) even lower =
    let high = place_of h lower.0 in
    let low = place_of l lower.1.0 in
    let rest = digits_of_bytes n digits (omega arith) lower.1.1 in
    let tens : (high.0 * 16 + low.0) / 16 ≡ high.0 = omega (arith, low.1) in
    let ones : (high.0 * 16 + low.0) % 16 ≡ low.0 = omega (arith, low.1) in
    ((high.0 * 16 + low.0) ∷ rest.0, rw (tens, ones, high.2, low.2, rest.1) refl)

lower_place : (n : ℕ) → is_lower_digit (slice_index lower_digits n) ≡ true → n < 16
lower_place n lower = elim (cases_lt n 16) [
  | inl small ↦ small
  | inr large ↦ (let none : slice_index lower_digits n ≡ 0 = get_or_past lower_digits n 0 large in
      let zero_lower : is_lower_digit 0 ≡ true = rw none at lower in absurd (cc zero_lower))
]

-- if the hexadecimal spelling of a list of numbers has only lower-case digits, the numbers are bytes
spelt_bytes : (bytes : List ℕ) → AllLower (encode_lower bytes) → IsBytes bytes
unfolding encode_with
spelt_bytes [] lower = λ i. omega arith
spelt_bytes (b ∷ bytes) lower =
    let high = lower_place (b / 16) lower.0 in
    let rest : IsBytes bytes = spelt_bytes bytes lower.1.1 in
    λ i. elim i as (λ i. slice_index (b ∷ bytes) i < 256) [ zero ↦ omega arith | suc i ↦ rest i ]

-- if `field` consists of 2 n lower-case digits, it decodes to the bytes that it spells
pub decoded : (n : ℕ) (field : List ℕ) → length field ≡ 2 * n → AllLower field →
    (bytes : List ℕ) × (decode_sized field n ≡ Ok bytes) × (encode_lower bytes ≡ field)
decoded n field twice lower =
    let spelt = digits_of_bytes n field twice lower in
    let small = spelt_bytes spelt.0 (subst AllLower (sym spelt.1) lower) in
    let long = length-encode_with lower_digits spelt.0 in
    let many : length spelt.0 ≡ n = omega (arith, long, twice, ap length spelt.1) in
    (spelt.0, ap (λ s. decode_sized s n) (sym spelt.1) ∙ decode_sized-encode_lower spelt.0 n many small, spelt.1)

-- a field that consists of the digits of some bytes spells these bytes
pub bytes_spelt : (field bytes : List ℕ) → 0 < length bytes → AllLower field → encode_lower bytes ≡ field →
    Some bytes ≡ bytes_of field
bytes_spelt field [] some lower is = absurd (omega arith)
bytes_spelt field (b ∷ bytes) some lower is =
    sym (bytes_again (b ∷ bytes) (spelt_bytes (b ∷ bytes) (subst AllLower (sym is) lower))) ∙ ap bytes_of is

-- a field of even length is no dash, since a dash is one byte
pub no_dash : (field : List ℕ) (n : ℕ) → length field ≡ 2 * n → bytes_eq field (hex []) ≡ false
no_dash field n even = false_from_ne_true _ (λ e.
    omega (arith, even, ap length ((bytes_eq-Decides field (hex [])).0 e)))

-- a field of even length above 0 spells bytes exactly if all its bytes are lower-case hexadecimal digits
pub is_spelt : (field : List ℕ) (lower : Bool) → bytes_eq field (hex []) ≡ false → 0 < length field →
    length field % 2 ≡ 0 → (lower ≡ true ↔ AllLower field) → lower ≡ is_some (bytes_of field)
is_spelt field true dash some even is =
    let all = is.0 refl in
    let spelt = digits_of_bytes (length field / 2) field (omega (arith, even)) all in
    let long = length-encode_with lower_digits spelt.0 in
    ap is_some (bytes_spelt field spelt.0 (omega (arith, long, ap length spelt.1, some)) all spelt.1)
is_spelt field false dash some even is =
    ap is_some (sym (bytes_none field dash (λ found n lower e. absurd (false≢true (is.1 lower)))))

-- if `out` is written over the front of `items`, and both have length n, then the first n bytes are `out`
pub written : (out items : List ℕ) (n : ℕ) → length out ≡ length items → n ≡ length items →
    take n (out ++ drop (length out) items) ≡ out
written out items n same all =
    let within : n ≤ length out = omega arith in
    take-append-le n out (drop (length out) items) within ∙ take_all n out (omega arith)
