-- If a text contains a byte, the text is cut at the first place of that byte, and in only one way.
use Rattle.std.proofs.Common.{◌≡◌, ℕ, suc, ◌+◌, ◌%◌, ◌^◌, ◌<◌, ◌==◌, true, false, not, List, [], ◌∷◌, ◌++◌, length, get_or, take, drop, Some, None, refl, sym, subst, add-one, drop-cons, eq-eqb, arith}
use Rattle.std.specs.Prelude.{decimal}
use Rattle.std.proofs.lemmas.Bool.{and_parts, eqb-true, false_from_ne_true}
use Rattle.std.proofs.lemmas.List.{length-take, take-append-drop, get_or-take}
use Rattle.std.proofs.lemmas.Fmt.{decimal_by_steps}
use Rattle.memchr.specs.Find.{IsFirstByte, is_byte}
use Rattle.transcript_text.specs.Reading.{lacks}

test_same : (byte : ℕ) → (byte == byte) ≡ true
test_same byte = eq-eqb byte byte refl

pub lacks-append : (byte : ℕ) (xs ys : List ℕ) → lacks byte xs ≡ true → lacks byte ys ≡ true
    → lacks byte (xs ++ ys) ≡ true
lacks-append byte [] ys p q = q
lacks-append byte (x ∷ xs) ys p q =
    let both = and_parts (not (x == byte)) (lacks byte xs) p in
    rw (both.0, lacks-append byte xs ys both.1 q) refl

pub not_lacking : (byte : ℕ) (xs ys : List ℕ) → lacks byte (xs ++ byte ∷ ys) ≡ true → ⊥
not_lacking byte [] ys p = let e = rw test_same at p in cc
not_lacking byte (x ∷ xs) ys p = not_lacking byte xs ys (and_parts (not (x == byte)) (lacks byte (xs ++ byte ∷ ys)) p).1

pub same_cut : (byte : ℕ) (a b x y : List ℕ) → lacks byte a ≡ true → lacks byte b ≡ true
    → a ++ byte ∷ x ≡ b ++ byte ∷ y → (a ≡ b) × (x ≡ y)
same_cut byte [] [] x y p q e = (refl, cc)
same_cut byte [] (b ∷ bs) x y p q e =
    let head : byte ≡ b = cc in
    absurd (not_lacking byte [] bs (subst (λ (w : ℕ). lacks byte (w ∷ bs) ≡ true) (sym head) q))
same_cut byte (a ∷ as') [] x y p q e =
    let head : a ≡ byte = cc in
    absurd (not_lacking byte [] as' (subst (λ (w : ℕ). lacks byte (w ∷ as') ≡ true) head p))
same_cut byte (a ∷ as') (b ∷ bs) x y p q e =
    let head : a ≡ b = cc in
    let tail : as' ++ byte ∷ x ≡ bs ++ byte ∷ y = cc in
    let rest = same_cut byte as' bs x y (and_parts (not (a == byte)) (lacks byte as') p).1
    (and_parts (not (b == byte)) (lacks byte bs) q).1 tail in
    let front : as' ≡ bs = rest.0 in
    (cc, rest.1)

-- the text of a decimal digit never equals `byte`
abbrev pub IsNoDigit : ℕ → Type 0
IsNoDigit byte = (d : ℕ) → d < 10 → ((48 + d) == byte) ≡ false

pub lacks-decimal : (byte n : ℕ) → IsNoDigit byte → n < 2 ^ 64 → lacks byte (decimal n) ≡ true
lacks-decimal byte n other small =
    decimal_by_steps (λ _ ds. lacks byte ds ≡ true)
    (λ d below. rw (other d below) refl)
    (λ m ds ten h. lacks-append byte ds ((48 + m % 10) ∷ []) h (rw (other (m % 10) (omega arith)) refl))
    n small

-- ---- the text before the first place of a byte

lacks_from : (byte : ℕ) (xs : List ℕ) → ((k : ℕ) → k < length xs → (get_or xs k 0 == byte) ≡ false)
    → lacks byte xs ≡ true
lacks_from byte [] each = refl
lacks_from byte (x ∷ xs) each = rw (each 0 (omega arith), lacks_from byte xs (λ k below. each (suc k) (omega arith)))
    refl

pub nowhere : (byte : ℕ) (text : List ℕ) → IsFirstByte (is_byte byte) text None → lacks byte text ≡ true
nowhere byte text h = lacks_from byte text (λ k below. false_from_ne_true _ (h k (omega arith) below))

pub cut_there : (byte place : ℕ) (text : List ℕ) → IsFirstByte (is_byte byte) text (Some place)
    → text ≡ take place text ++ byte ∷ drop (place + 1) text
cut_there byte place text h =
    sym (rw (add-one, ← (eqb-true _ _ h.1), ← drop-cons text place 0 h.0.high) (take-append-drop place text))

pub lacks_before : (byte place : ℕ) (text : List ℕ) → IsFirstByte (is_byte byte) text (Some place)
    → lacks byte (take place text) ≡ true
lacks_before byte place text h =
    lacks_from byte (take place text) (λ k below.
    let before : k < place = omega (arith, length-take place text) in
    rw (get_or-take place text k 0 before) (false_from_ne_true _ (h.0.before k (omega arith) before)))
