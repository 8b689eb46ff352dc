-- If no digit follows a number at the start of a text, there is only one way to read the number.
use Rattle.std.proofs.Common.{◌≡◌, ℕ, zero, suc, ◌+◌, ◌*◌, ◌^◌, ◌<◌, ◌≤◌, List, [], ◌∷◌, ◌++◌, length, get_or, take, drop, Some, None, inl, inr, refl, sym, ap, subst, ◌∙◌, append-nil, arith}
use Rattle.std.specs.Prelude.{decimal}
use Rattle.std.specs.Char.{digit_value}
use Rattle.std.specs.Str.Parse.{AllDigits, digits_value}
use Rattle.std.proofs.Math.Seq.{drop-append_seam}
use Rattle.std.proofs.lemmas.Bool.{cases_lt}
use Rattle.std.proofs.lemmas.Fmt.{decimal_injective, decimal_nonempty, length-decimal-le}
use Rattle.std.proofs.lemmas.Int.Digits.{digits_more, digits_value_more}
use Rattle.std.proofs.lemmas.List.{drop_more, length-take, get_or-take, take-append-drop, take-append-le}
use Rattle.std.proofs.lemmas.Str.Parse.{digits_value-take-le, digits_value_short, numerals_by_value, tells_digits}
use Rattle.key_names.specs.Texts.ScriptFaults.{number_below}
use Rattle.key_names.proofs.Script.Numbers.{IsNumber, IsNumber-decimal, number_again, number_good, number_none, number_takes, value_of_decimal}
use Rattle.event_script.specs.ValueFronts.{BeginsDigits, EndsNumber, IsDigits, IsFront, NoFront}

-- ---- Digits at the start of a text

all_within : (k : ℕ) (digits other : List ℕ) → AllDigits 10 (take k (digits ++ other)) → k ≤ length (digits ++ other)
    → EndsNumber other → k ≤ length digits
all_within zero digits other all long ends = omega arith
all_within (suc k) [] [] all long ends = absurd (omega arith)
all_within (suc k) [] (c ∷ other) all long ends = absurd (ends all.0)
all_within (suc k) (d ∷ digits) other all long ends =
    let more : k ≤ length digits = all_within k digits other all.1 (omega arith) ends in omega arith

module _ (text : List ℕ) (value len : ℕ) (so_far : BeginsDigits text value len) where
  pub digit_more : (digit byte : ℕ) → len < length text → byte ≡ get_or text len 0
      → (digit_value byte < 10) × (digit ≡ digit_value byte) → BeginsDigits text (value * 10 + digit) (len + 1)
  digit_more digit byte lt there is =
      let more = digits_value_more 10 text len lt in
      let value_is : digit ≡ digit_value (get_or text len 0) = is.1 ∙ ap digit_value there in
      record {
        within = omega arith;
        digits = digits_more 10 text len lt so_far.digits (rw there at is.0);
        value_is = omega (arith, more, so_far.value_is, value_is);
      }

  pub digits_end : len < length text → (digit_value (get_or text len 0) < 10 → ⊥) → IsDigits text value len
  digits_end lt not = record { begins = so_far; ends = rw (drop_more text len 0 lt) not }

  -- up to 18 digits have a value below 10 ^ 18
  pub few_digits : len ≤ 18 → value < 10 ^ 18
  few_digits few =
      let small = digits_value_short (numerals_by_value (AllDigits 10) tells_digits) (take len text) 18 so_far.digits
      (omega (arith, length-take len text)) in
      omega (arith, small, so_far.value_is)

  -- if the text is `n` in decimal and then `other`, which begins with no digit, then `n` has at least `len` digits
  digits_within : (n : ℕ) (other : List ℕ) → EndsNumber other → text ≡ decimal n ++ other → len ≤ length (decimal n)
  digits_within n other ends e =
      all_within len (decimal n) other (subst (λ (t : List ℕ). AllDigits 10 (take len t)) e so_far.digits)
      (omega (arith, ap length e, so_far.within)) ends

  -- if the text begins with a number below 2 ^ 64, and `len` is at least twenty, no digit follows the first `len` bytes
  pub twenty_digits : 20 ≤ len → (n : ℕ) (other : List ℕ) → n < 2 ^ 64 → EndsNumber other → text ≡ decimal n ++ other
      → EndsNumber (drop len text)
  twenty_digits many n other small ends e =
      let short = length-decimal-le 20 n (omega arith) (omega arith) small in
      let is : len ≡ length (decimal n) = omega (arith, short, digits_within n other ends e) in
      let rest : drop len text ≡ other = ap (λ (k : ℕ). drop k text) is ∙ ap (drop (length (decimal n))) e
      ∙ drop-append_seam (decimal n) other in
      subst EndsNumber (sym rest) ends

  pub too_large : (most : ℕ) → most < 2 ^ 64 → most < value → NoFront decimal (λ n. n ≤ most) text
  too_large most wide large n other small ends e =
      let k = digits_within n other ends e in
      let front = ap (take len) e ∙ take-append-le len (decimal n) other k in
      let part = digits_value-take-le 10 (decimal n) len (omega arith) in
      omega (arith, part, ap (digits_value 10) front, value_of_decimal n (omega arith), so_far.value_is, large, small)

-- ---- all digits that the text begins with

same_digits : (a b x y : List ℕ) → AllDigits 10 a → AllDigits 10 b → EndsNumber x → EndsNumber y → a ++ x ≡ b ++ y
    → (a ≡ b) × (x ≡ y)
same_digits [] [] x y p q f g e = (refl, e)
same_digits [] (b ∷ bs) [] y p q f g e = absurd cc
same_digits [] (b ∷ bs) (c ∷ x) y p q f g e =
    let head : b ≡ c = cc in absurd (f (subst (λ (d : ℕ). digit_value d < 10) head q.0))
same_digits (a ∷ as') [] x [] p q f g e = absurd cc
same_digits (a ∷ as') [] x (c ∷ y) p q f g e =
    let head : a ≡ c = cc in absurd (g (subst (λ (d : ℕ). digit_value d < 10) head p.0))
same_digits (a ∷ as') (b ∷ bs) x y p q f g e =
    let head : a ≡ b = cc in
    let tail : as' ++ x ≡ bs ++ y = cc in
    let rest = same_digits as' bs x y p.1 q.1 f g tail in
    let front : as' ≡ bs = rest.0 in
    (cc, rest.1)

module _ (most : ℕ) (text : List ℕ) (value len : ℕ) (wide : most < 2 ^ 64) (d : IsDigits text value len) where
  parted : (n : ℕ) (other : List ℕ) → n ≤ most → EndsNumber other → text ≡ decimal n ++ other
      → (take len text ≡ decimal n) × (drop len text ≡ other)
  parted n other small after e =
      same_digits (take len text) (decimal n) (drop len text) other d.begins.digits
      (IsNumber-decimal n (omega arith)).digits d.ends after (take-append-drop len text ∙ e)

  pub no_digits : len ≡ 0 → NoFront decimal (λ n. n ≤ most) text
  no_digits none n other small after e =
      let is = (parted n other small after e).0 in
      omega (arith, none, ap length is, length-take len text, decimal_nonempty n (omega arith))

  pub leading_zero : 1 < len → get_or text 0 0 ≡ 48 → NoFront decimal (λ n. n ≤ most) text
  leading_zero long lead n other small after e =
      let is = (parted n other small after e).0 in
      let first : get_or (decimal n) 0 0 ≡ 48 =
      sym (ap (λ (t : List ℕ). get_or t 0 0) is) ∙ get_or-take len text 0 0 (omega arith) ∙ lead in
      let one = (IsNumber-decimal n (omega arith)).lead first in
      omega (arith, one, ap length is, length-take len text, d.begins.within, long)

  pub number_is_front : 0 < len → (1 < len → get_or text 0 0 ≡ 48 → ⊥) → value ≤ most
      → IsFront decimal (λ n. n ≤ most) text value (drop len text)
  number_is_front some lead small =
      let long : length (take len text) ≡ len = omega (arith, length-take len text, d.begins.within) in
      let good : IsNumber (take len text) = record {
        digits = d.begins.digits;
        some = omega (arith, long, some);
        lead = λ zero. elim (cases_lt 1 len) [
          | inl many ↦ absurd (lead many (sym (get_or-take len text 0 0 some) ∙ zero))
          | inr one ↦ omega (arith, long, some, one)
        ];
      } in
      let read = number_good (2 ^ 64) (take len text) good (omega (arith, d.begins.value_is, small, wide)) (omega arith) in
      let is = (number_takes (2 ^ 64) (digits_value 10 (take len text)) (take len text) read).1
      ∙ ap decimal (sym d.begins.value_is) in
      record {
        fits = small;
        whole = sym (take-append-drop len text) ∙ ap (λ (front : List ℕ). front ++ drop len text) is;
        only = λ n other fits after e.
            let same = parted n other fits after e in
            (decimal_injective n value (omega arith) (omega arith) (sym same.0 ∙ is), same.1);
      }

-- ---- A text that is a number and nothing else

pub whole_number : (most n : ℕ) (text rest : List ℕ) → most < 2 ^ 64 → IsFront decimal (λ m. m ≤ most) text n rest
    → rest ≡ [] → Some n ≡ number_below (most + 1) text
whole_number most n text rest wide f none =
    let is : text ≡ decimal n = f.whole ∙ ap (λ (r : List ℕ). decimal n ++ r) none ∙ append-nil (decimal n) in
    rw is (sym (number_again (most + 1) n (omega (arith, f.fits)) (omega arith)))

pub no_whole_number : (most : ℕ) (text : List ℕ) → most < 2 ^ 64
    → ((n : ℕ) → n ≤ most → text ≡ decimal n ++ [] → ⊥) → None ≡ number_below (most + 1) text
no_whole_number most text wide not =
    sym (number_none (most + 1) text (omega arith) (λ good below.
    let read = number_takes _ _ text (number_good (most + 1) text good below (omega arith)) in
    not _ (omega (arith, read.0)) (read.1 ∙ sym (append-nil _))))
