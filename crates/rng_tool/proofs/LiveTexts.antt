-- The whole lines that a text begins with.
use Rattle.std.proofs.Common.{◌≡◌, ℕ, ◌==◌, ◌⊎◌, inl, inr, false, List, [], ◌∷◌, ◌++◌, length, refl, sym, ap, subst, ◌∙◌, append_assoc, arith}
use Rattle.std.proofs.lemmas.List.{length-append}
use Rattle.std.proofs.lemmas.List.Elements.{All-append, All-head, All-nil, All-tail}
use Rattle.rng_tool.specs.LiveOutcome.{GoesOn}
use Rattle.rng_tool.specs.LiveSteps.{IsPart, IsUnopened}

-- the text, followed by this line and a line feed
abbrev pub lined_up : List ℕ → List ℕ → List ℕ
lined_up text line = text ++ (line ++ 10 ∷ [])

pub no_items : (xs : List ℕ) → length xs ≡ 0 → xs ≡ []
no_items [] none = refl
no_items (x ∷ xs) none = absurd (omega (arith, none))

pub no_bytes : IsPart []
no_bytes = All-nil (λ x. (x == 10) ≡ false)

pub longer_part : (a b : List ℕ) → IsPart a → IsPart b → IsPart (a ++ b)
longer_part a b clean also = All-append (λ x. (x == 10) ≡ false) a b clean also

no_feed_byte : (b : ℕ) (line : List ℕ) → IsPart (b ∷ line) → b ≡ 10 → ⊥
no_feed_byte b line clean is =
    let other = subst (λ x. (x == 10) ≡ false) is (All-head (λ x. (x == 10) ≡ false) b line clean) in absurd cc

part_after : (b : ℕ) (line : List ℕ) → IsPart (b ∷ line) → IsPart line
part_after b line clean = All-tail (λ x. (x == 10) ≡ false) b line clean

-- if `text` has no line feed, it has no whole line
pub no_feed : (text front rest : List ℕ) → IsPart text → text ≡ front ++ 10 ∷ rest → ⊥
no_feed [] front rest clean is = absurd (omega (arith, ap length is, length-append front (10 ∷ rest)))
no_feed (b ∷ text) [] rest clean is = no_feed_byte b text clean (let one : b ≡ 10 = cc in one)
no_feed (b ∷ text) (x ∷ front) rest clean is =
    no_feed text front rest (part_after b text clean) (let tails : text ≡ front ++ 10 ∷ rest = cc in tails)

-- if whole lines are at the front of a text whose first line is `line`, these whole lines begin with `line`
pub first_feed : (line more front rest : List ℕ) → IsPart line → line ++ 10 ∷ more ≡ front ++ 10 ∷ rest
    → (mid : List ℕ) × (front ++ 10 ∷ [] ≡ line ++ 10 ∷ mid)
first_feed [] more [] rest clean is = ([], refl)
first_feed [] more (x ∷ front) rest clean is =
    (front ++ 10 ∷ [], ap (λ b. b ∷ (front ++ 10 ∷ [])) (let one : x ≡ 10 = cc in one))
first_feed (b ∷ line) more [] rest clean is = absurd (no_feed_byte b line clean (let one : b ≡ 10 = cc in one))
first_feed (b ∷ line) more (x ∷ front) rest clean is =
    let found = first_feed line more front rest (part_after b line clean)
    (let tails : line ++ 10 ∷ more ≡ front ++ 10 ∷ rest = cc in tails) in
    (found.0, ap (λ t. x ∷ t) found.1 ∙ ap (λ c. c ∷ (line ++ 10 ∷ found.0)) (let one : x ≡ b = cc in one))

-- if `more`, which follows `text`, has no line feed, all whole lines at the front of `text ++ more` are in `text`
pub fed_before : (text more front rest : List ℕ) → IsPart more → text ++ more ≡ front ++ 10 ∷ rest
    → (left : List ℕ) × (text ≡ front ++ 10 ∷ left)
fed_before [] more front rest clean is = absurd (no_feed more front rest clean is)
fed_before (x ∷ text) more [] rest clean is = (text, ap (λ b. b ∷ text) (let one : x ≡ 10 = cc in one))
fed_before (x ∷ text) more (y ∷ front) rest clean is =
    let found = fed_before text more front rest clean (let tails : text ++ more ≡ front ++ 10 ∷ rest = cc in tails) in
    (found.0, ap (λ t. x ∷ t) found.1 ∙ ap (λ b. b ∷ (front ++ 10 ∷ found.0)) (let one : x ≡ y = cc in one))

-- if `line` follows `text`, whole lines at the front are all in `text`, or contain all of `text` and `line`
pub fed_around : (text line more front rest : List ℕ) → IsPart line
    → text ++ (line ++ 10 ∷ more) ≡ front ++ 10 ∷ rest
    → ((left : List ℕ) × (text ≡ front ++ 10 ∷ left)) ⊎ ((mid : List ℕ) × (front ++ 10 ∷ [] ≡ text ++ (line ++ 10 ∷ mid)))
fed_around [] line more front rest clean is = inr (first_feed line more front rest clean is)
fed_around (x ∷ text) line more [] rest clean is = inl (text, ap (λ b. b ∷ text) (let one : x ≡ 10 = cc in one))
fed_around (x ∷ text) line more (y ∷ front) rest clean is =
    let same : x ≡ y = cc in
    elim (fed_around text line more front rest clean
    (let tails : text ++ (line ++ 10 ∷ more) ≡ front ++ 10 ∷ rest = cc in tails)) [
      | inl found ↦ inl (found.0, ap (λ t. x ∷ t) found.1 ∙ ap (λ b. b ∷ (front ++ 10 ∷ found.0)) same)
      | inr found ↦
          inr (found.0, ap (λ t. y ∷ t) found.1 ∙ ap (λ b. b ∷ (text ++ (line ++ 10 ∷ found.0))) (sym same))
    ]

-- ---- a text with a line, and more text after the line

-- `text`, then `line` with its line feed, and then `more` are the same text, however the three are grouped
pub line_and_more : (text line more : List ℕ) → lined_up text line ++ more ≡ text ++ (line ++ 10 ∷ more)
line_and_more text line more =
    append_assoc text (line ++ 10 ∷ []) more ∙ ap (λ t. text ++ t) (append_assoc line (10 ∷ []) more)

-- if `text` is `front ++ rest`, then `text` with `line` after it is `front` with the line `rest ++ line` after it
pub line_in_rest : (text front rest line : List ℕ) → text ≡ front ++ rest
    → lined_up text line ≡ lined_up front (rest ++ line)
line_in_rest text front rest line is =
    ap (λ t. t ++ (line ++ 10 ∷ [])) is ∙ append_assoc front rest (line ++ 10 ∷ [])
    ∙ ap (λ t. front ++ t) (sym (append_assoc rest line (10 ∷ [])))

pub more_in_rest : (text front rest more : List ℕ) → text ≡ front ++ rest → text ++ more ≡ front ++ (rest ++ more)
more_in_rest text front rest more is = ap (λ t. t ++ more) is ∙ append_assoc front rest more

-- ---- texts that do not begin with whole lines that events may follow

pub unopened_more : (text more : List ℕ) → IsPart more → IsUnopened text → IsUnopened (text ++ more)
unopened_more text more clean unopened = λ front rest is goes.
    unopened front (fed_before text more front rest clean is).0 (fed_before text more front rest clean is).1 goes

-- let `text` be unopened (it does not begin with whole lines that events may follow). If events may follow no text that
-- begins with `text` and `line`, then `text`, `line` and any text after them are together unopened
pub unopened_line : (text line more : List ℕ) → IsPart line → IsUnopened text
    → ((mid : List ℕ) → GoesOn (text ++ (line ++ 10 ∷ mid)) → ⊥) → IsUnopened (text ++ (line ++ 10 ∷ more))
unopened_line text line more clean unopened none = λ front rest is goes.
    elim (fed_around text line more front rest clean is) [
      | inl found ↦ unopened front found.0 found.1 goes
      | inr found ↦ none found.0 (subst GoesOn found.1 goes)
    ]

pub unopened_whole : (text line : List ℕ) → IsPart line → IsUnopened text → (GoesOn (lined_up text line) → ⊥)
    → IsUnopened (lined_up text line)
unopened_whole text line clean unopened none = λ front rest is goes.
    elim (fed_around text line [] front rest clean is) [
      | inl found ↦ unopened front found.0 found.1 goes
      | inr found ↦
          let whole : found.0 ≡ [] = no_items found.0 (omega (
            arith,
            ap length is,
            ap length found.1,
            length-append front (10 ∷ rest),
            length-append front (10 ∷ []),
            length-append text (line ++ 10 ∷ []),
            length-append text (line ++ 10 ∷ found.0),
            length-append line (10 ∷ []),
            length-append line (10 ∷ found.0),
          )) in
          none (subst GoesOn (found.1 ∙ ap (λ mid. text ++ (line ++ 10 ∷ mid)) whole) goes)
    ]
