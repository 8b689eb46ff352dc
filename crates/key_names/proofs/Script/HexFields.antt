-- A field is read as bytes if and only if it is the spelling of these bytes.
use Rattle.std.proofs.Common.{◌≡◌, ℕ, suc, ◌+◌, ◌*◌, ◌-◌, ◌/◌, ◌%◌, ◌<◌, ◌==◌, leb, Bool, true, false, cond, ◌&&◌, inl, inr, Option, Some, None, Result, Ok, Err, List, [], ◌∷◌, length, slice_index, refl, sym, ap, ◌∙◌, arith}
use Rattle.std.specs.Result.{result_unwrap_or}
use Rattle.std.specs.Str.{bytes_eq}
use Rattle.std.proofs.lemmas.Bool.{agree_below_at, and_parts, eqb-true, leb-true, false_from_ne_true, or_cases}
use Rattle.std.proofs.lemmas.Option.{cond_some, same_Some}
use Rattle.std.proofs.lemmas.Slice.Eq.{bytes_eq-Decides}
use Rattle.hex.specs.Hex.{IsBytes, decode_of, decode_pairs, digit_or_error, encode_lower, encode_with, hex_digit_value, lower_digits, pair_value, value_at, ◌>>=◌}
use Rattle.hex.specs.declared.error.FromHexError.{FromHexError}
use Rattle.hex.proofs.HexLemmas.{decode_of-encode_lower, decode_of-even, decode_of-ok, length-encode_with}
use Rattle.key_names.specs.Texts.Spelling.{hex, AllLower, is_lower_digit}
use Rattle.key_names.specs.Texts.ScriptFaults.{bytes_of, spelt_bytes}

-- ---- one hexadecimal digit

spells : (d : ℕ) → d < 16 → is_lower_digit (slice_index lower_digits d) ≡ true
spells d small = agree_below_at (λ k. is_lower_digit (slice_index lower_digits k)) (λ k. true) 16 d refl small

pub spells_number : (d : ℕ) → d < 10 → slice_index lower_digits d ≡ 48 + d
spells_number d small = eqb-true _ _ (agree_below_at (λ k. slice_index lower_digits k == 48 + k) (λ k. true) 10 d refl
    small)

pub spells_letter : (d : ℕ) → d < 6 → slice_index lower_digits (10 + d) ≡ 97 + d
spells_letter d small = eqb-true _ _ (agree_below_at (λ k. slice_index lower_digits (10 + k) == 97 + k) (λ k. true) 6 d
    refl small)

-- if `v` is the value of the lower-case digit `c`, then digit `v` of the table is `c`
lower_value : (c v : ℕ) → is_lower_digit c ≡ true → hex_digit_value c ≡ Some v → (v < 16) ×
    (slice_index lower_digits v ≡ c)
lower_value c v lower e =
    elim (or_cases (leb 48 c && leb c 57) (leb 97 c && leb c 102) lower) [
      | inl number ↦
          let low = leb-true _ _ (and_parts (leb 48 c) (leb c 57) number).0 in
          let high = leb-true _ _ (and_parts (leb 48 c) (leb c 57) number).1 in
          let is : v + 48 ≡ c = grind arith in
          (omega arith, spells_number v (omega arith) ∙ omega arith)
      | inr letter ↦
          let low = leb-true _ _ (and_parts (leb 97 c) (leb c 102) letter).0 in
          let high = leb-true _ _ (and_parts (leb 97 c) (leb c 102) letter).1 in
          let is : v + 87 ≡ c = grind arith in
          let d : 10 + (v - 10) ≡ v = omega arith in
          (omega arith, rw d at (spells_letter (v - 10) (omega arith)) ∙ omega arith)
    ]

-- ---- pairs of hexadecimal digits

step_ok : {A B : Type 0} (r : Result A FromHexError) (f : A → Result B FromHexError) (y : B)
    → (r >>= f) ≡ Ok y → (x : A) × (r ≡ Ok x) × (f x ≡ Ok y)
step_ok (Ok x) f y e = (x, refl, e)
step_ok (Err d) f y e = absurd cc

digit_read : (c i : ℕ) (o : Option ℕ) (v : ℕ) → digit_or_error c i o ≡ Ok v → o ≡ Some v
digit_read c i (Some w) v h = ap Some (ap (λ (r : Result ℕ FromHexError). result_unwrap_or r 0) h)
digit_read c i None v h = absurd cc

-- if the lower-case digits `text` decode to `bytes`, then `bytes` are spelt as `text`
encode_decoded : (i : ℕ) (text bytes : List ℕ) → AllLower text → decode_pairs i text ≡ Ok bytes →
    encode_lower bytes ≡ text
unfolding decode_pairs encode_with
encode_decoded i [] bytes lower e =
    let none : [] ≡ bytes = ap (λ (r : Result (List ℕ) FromHexError). result_unwrap_or r []) e in
    rw (← none) refl
encode_decoded i (a ∷ []) bytes lower e = absurd cc
encode_decoded i (a ∷ b ∷ rest) bytes lower e =
    let pair = step_ok (pair_value a b i) _ bytes e in
    let high = step_ok (value_at a i) _ pair.0 pair.1 in
    let low = step_ok (value_at b (i + 1)) _ pair.0 high.2 in
    let others = step_ok (decode_pairs (i + 2) rest) _ bytes pair.2 in
    let later = encode_decoded (i + 2) rest others.0 lower.1.1 others.1 in
    let is : pair.0 ∷ others.0 ≡ bytes = ap (λ (r : Result (List ℕ) FromHexError). result_unwrap_or r []) others.2 in
    let h = lower_value a high.0 lower.0 (digit_read a i (hex_digit_value a) high.0 high.1) in
    let l = lower_value b low.0 lower.1.0 (digit_read b (i + 1) (hex_digit_value b) low.0 low.1) in
    let byte : high.0 * 16 + low.0 ≡ pair.0 = ap (λ (r : Result ℕ FromHexError). result_unwrap_or r 0) low.2 in
    let small : low.0 < 16 = l.0 in
    let high_is : pair.0 / 16 ≡ high.0 = omega arith in
    let low_is : pair.0 % 16 ≡ low.0 = omega arith in
    rw (← is, high_is, low_is, h.1, l.1, later) refl

pub lower_encoded : (bytes : List ℕ) → IsBytes bytes → AllLower (encode_lower bytes)
unfolding encode_with
lower_encoded [] small = tt
lower_encoded (b ∷ bytes) small =
    let byte = small 0 in
    (spells (b / 16) (omega arith), (spells (b % 16) (omega arith), lower_encoded bytes (λ k. small (suc k))))

-- ---- a field that spells bytes

dash_only : (b : ℕ) (bytes : List ℕ) → bytes_eq (encode_lower (b ∷ bytes)) (hex []) ≡ false
dash_only b bytes = false_from_ne_true _ (λ e.
    let same = (bytes_eq-Decides (encode_lower (b ∷ bytes)) (hex [])).0 e in
    omega (arith, ap length same, length-encode_with lower_digits (b ∷ bytes)))

-- the spelling of `bytes` is read as `bytes`
pub bytes_again : (bytes : List ℕ) → IsBytes bytes → bytes_of (hex bytes) ≡ Some bytes
bytes_again [] small = refl
bytes_again (b ∷ bytes) small =
    let back = decode_of-encode_lower (b ∷ bytes) small in
    let same = (bytes_eq-Decides (encode_lower (b ∷ bytes)) (encode_lower (b ∷ bytes))).1 refl in
    rw (dash_only b bytes, back, same) refl

spelt_takes : (field bytes : List ℕ) (r : Result (List ℕ) FromHexError) → spelt_bytes field r ≡ Some bytes
    → (r ≡ Ok bytes) × (field ≡ hex bytes)
spelt_takes field bytes (Ok found) e =
    let both = cond_some (bytes_eq (hex found) field) found bytes e in
    (ap (λ (x : List ℕ). Ok x) both.1, rw (← both.1) (sym ((bytes_eq-Decides (hex found) field).0 both.0)))
spelt_takes field bytes (Err d) e = absurd cc

field_takes : (field bytes : List ℕ) (dash : Bool) → bytes_eq field (hex []) ≡ dash
    → cond dash (Some []) (spelt_bytes field (decode_of field)) ≡ Some bytes → (field ≡ hex bytes) × IsBytes bytes
field_takes field bytes true is e =
    let none : [] ≡ bytes = same_Some [] bytes e in
    rw (← none) ((bytes_eq-Decides field (hex [])).0 is, λ k. omega arith)
field_takes field bytes false is e =
    let spelt = spelt_takes field bytes (decode_of field) e in
    (spelt.1, (decode_of-ok field bytes spelt.0).3)

-- if `field` is read as `bytes`, then it is the spelling of `bytes`
pub bytes_takes : (field bytes : List ℕ) → bytes_of field ≡ Some bytes → (field ≡ hex bytes) × IsBytes bytes
bytes_takes field bytes e = field_takes field bytes (bytes_eq field (hex [])) refl e

-- if `field` consists of lower-case digits that decode to `bytes`, it is read as `bytes`
pub bytes_found : (field bytes : List ℕ) → 0 < length field → AllLower field → decode_of field ≡ Ok bytes
    → bytes_of field ≡ Some bytes
bytes_found field [] some lower e = absurd (omega (arith, (decode_of-ok field [] e).2))
bytes_found field (b ∷ bytes) some lower e =
    let ok = decode_of-ok field (b ∷ bytes) e in
    let pairs = sym (decode_of-even field ok.0) ∙ e in
    let spelt = encode_decoded 0 field (b ∷ bytes) lower pairs in
    let dash : bytes_eq field (hex []) ≡ false = rw (← spelt) (dash_only b bytes) in
    let same = (bytes_eq-Decides (encode_lower (b ∷ bytes)) field).1 spelt in
    rw (dash, e, same) refl

none_else : (field : List ℕ) → bytes_eq field (hex []) ≡ false
    → ((bytes : List ℕ) → 0 < length field → AllLower field → decode_of field ≡ Ok bytes → ⊥)
    → (o : Option (List ℕ)) → bytes_of field ≡ o → o ≡ None
none_else field dash not None e = refl
none_else field dash not (Some []) e =
    let same = (bytes_eq-Decides field (hex [])).1 (bytes_takes field [] e).0 in
    absurd cc
none_else field dash not (Some (b ∷ bytes)) e =
    let is = bytes_takes field (b ∷ bytes) e in
    let long : 0 < length field = rw (is.0) (omega (arith, length-encode_with lower_digits (b ∷ bytes))) in
    absurd (not (b ∷ bytes) long (rw (is.0) (lower_encoded (b ∷ bytes) is.1))
    (rw (is.0) (decode_of-encode_lower (b ∷ bytes) is.1)))

-- a field other than a dash is read as bytes only if it is not empty and consists of lower-case digits that decode to
-- bytes
pub bytes_none : (field : List ℕ) → bytes_eq field (hex []) ≡ false
    → ((bytes : List ℕ) → 0 < length field → AllLower field → decode_of field ≡ Ok bytes → ⊥) → bytes_of field ≡ None
bytes_none field dash not = none_else field dash not (bytes_of field) refl
