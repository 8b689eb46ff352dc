-- A field is read as a number below a limit if and only if it is the spelling of that number.
use Rattle.std.proofs.Common.{◌≡◌, ℕ, ◌^◌, ◌<◌, ◌≤◌, Bool, true, false, cond, ◌&&◌, ltb, inl, inr, Option, Some, None, List, get_or, length, refl, sym, ap, ◌∙◌, arith}
use Rattle.std.specs.Fmt.{decimal}
use Rattle.std.specs.Str.{bytes_eq}
use Rattle.std.specs.Str.Parse.{AllDigits, digits_value}
use Rattle.std.proofs.lemmas.Bool.{and_parts, ltb-true, lt-ltb, cases_eq}
use Rattle.std.proofs.lemmas.Fmt.{decimal-digits_value, decimal_digit, decimal_nonempty, digits_decimal, digits_value-decimal, first_decimal}
use Rattle.std.proofs.lemmas.Slice.Eq.{bytes_eq-Decides}
use Rattle.std.proofs.lemmas.Str.Parse.{IsNumeralModel, numerals_by_value, tells_digits}
use Rattle.key_names.specs.Texts.ScriptFaults.{number_below}

own : IsNumeralModel (AllDigits 10) (digits_value 10)
own = numerals_by_value (AllDigits 10) tells_digits

-- the field has at least one digit, and nothing but digits. If it begins with 0, it is one digit long
pub record IsNumber (field : List ℕ) : Type 0 where
  pub digits : AllDigits 10 field
  pub some : 0 < length field
  pub lead : get_or field 0 0 ≡ 48 → length field ≡ 1

lead_of : (n : ℕ) → n < 2 ^ 64 → get_or (decimal n) 0 0 ≡ 48 → length (decimal n) ≡ 1
lead_of n small e =
    elim (cases_eq n 0) [
      | inl zero-is ↦ rw zero-is (ap length (decimal_digit 0 (omega arith)))
      | inr more ↦ absurd (omega (arith, first_decimal n (omega arith) small))
    ]

pub IsNumber-decimal : (n : ℕ) → n < 2 ^ 64 → IsNumber (decimal n)
IsNumber-decimal n small = record {
  digits = digits_decimal own n small;
  some = decimal_nonempty n small;
  lead = lead_of n small;
}

pub value_of_decimal : (n : ℕ) → n < 2 ^ 64 → digits_value 10 (decimal n) ≡ n
value_of_decimal n small = digits_value-decimal own n small

-- if `cond b (Some x) None` is `Some y`, then `b` is true, and `y` is `x`
met : {A : Type 0} (b : Bool) (x y : A) → cond b (Some x) None ≡ Some y → (b ≡ true) × (x ≡ y)
met true x y e = (refl, cc)
met false x y e = absurd cc

-- if `field` is read as the number n, then n is below the limit, and `field` is the spelling of n
pub number_takes : (limit n : ℕ) (field : List ℕ) → number_below limit field ≡ Some n → (n < limit) ×
    (field ≡ decimal n)
number_takes limit n field e =
    let v = digits_value 10 field in
    let found = met (ltb v limit && bytes_eq (decimal v) field) v n e in
    let both = and_parts (ltb v limit) (bytes_eq (decimal v) field) found.0 in
    (rw (← found.1) (ltb-true _ _ both.0), rw (← found.1) (sym ((bytes_eq-Decides (decimal v) field).0 both.1)))

pub number_good : (limit : ℕ) (field : List ℕ) → IsNumber field → digits_value 10 field < limit → limit ≤ 2 ^ 64
    → number_below limit field ≡ Some (digits_value 10 field)
number_good limit field good below wide =
    let same = decimal-digits_value own field good.digits good.some good.lead (omega arith) in
    rw (lt-ltb _ _ below, (bytes_eq-Decides (decimal (digits_value 10 field)) field).1 same) refl

-- if n is below the limit, the spelling of n is read as n
pub number_again : (limit n : ℕ) → n < limit → limit ≤ 2 ^ 64 → number_below limit (decimal n) ≡ Some n
number_again limit n below wide =
    let is = value_of_decimal n (omega arith) in
    number_good limit (decimal n) (IsNumber-decimal n (omega arith)) (rw is below) wide ∙ ap (λ (k : ℕ). Some k) is

none_else : (limit : ℕ) (field : List ℕ) → limit ≤ 2 ^ 64 → (IsNumber field → digits_value 10 field < limit → ⊥)
    → (o : Option ℕ) → number_below limit field ≡ o → o ≡ None
none_else limit field wide not None e = refl
none_else limit field wide not (Some n) e =
    let is = number_takes limit n field e in
    let value : digits_value 10 field ≡ n = rw is.1 (value_of_decimal n (omega (arith, is.0))) in
    absurd (not (rw is.1 (IsNumber-decimal n (omega (arith, is.0)))) (omega (arith, is.0)))

-- `field` is read as a number only if it is the spelling of a number below the limit
pub number_none : (limit : ℕ) (field : List ℕ) → limit ≤ 2 ^ 64 → (IsNumber field → digits_value 10 field < limit → ⊥)
    → number_below limit field ≡ None
number_none limit field wide not = none_else limit field wide not (number_below limit field) refl
