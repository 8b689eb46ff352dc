-- A text that spells a number is one field, so no other field follows the number.
use Rattle.std.proofs.Common.{◌≡◌, ℕ, ◌≤◌, ◌^◌, Some, Ok, Err, List, [], ◌∷◌, refl, sym, arith}
use Rattle.key_names.specs.declared.events.Event.{Event}
use Rattle.key_names.specs.declared.faults.FaultKind.TheVariants.{UnknownWord}
use Rattle.key_names.specs.Texts.ScriptFaults.{binary, number, number_below, parts, unary}
use Rattle.key_names.proofs.Script.LinedTexts.{clean_decimal, parts_spaced}
use Rattle.key_names.proofs.Script.Numbers.{number_takes}
use Rattle.key_names.proofs.Script.Parts.{first_part}

alone : (limit n : ℕ) (text : List ℕ) → limit ≤ 2 ^ 64 → Some n ≡ number_below limit text → parts 32 text ≡ text ∷ []
alone limit n text wide is =
    let spelt = number_takes limit n text (sym is) in
    rw spelt.1 (parts_spaced _ [] (clean_decimal n (omega (arith, spelt.0))) tt)

pub one_is_read : (limit n : ℕ) (text : List ℕ) (make : ℕ → Event) → limit ≤ 2 ^ 64 → Some n ≡ number_below limit text
    → unary (number limit) make (parts 32 text) ≡ Ok (make n)
one_is_read limit n text make wide is = rw (alone limit n text wide is, ← is) refl

pub two_are_read : (limit next a b : ℕ) (text first second : List ℕ) (make : ℕ → ℕ → Event) → next ≤ 2 ^ 64
    → parts 32 text ≡ first ∷ parts 32 second → Some a ≡ number_below limit first → Some b ≡ number_below next second
    → binary (number limit) (number next) make (parts 32 text) ≡ Ok (make a b)
two_are_read limit next a b text first second make wide cut is are =
    rw (cut, alone next b second wide are, ← is, ← are) refl

-- ---- A field too many after the numbers: the fault is `UnknownWord`

pub one_too_many : (limit : ℕ) (a b : List ℕ) (make : ℕ → Event)
    → unary (number limit) make (a ∷ parts 32 b) ≡ Err UnknownWord
one_too_many limit a b make = rw (first_part 32 b).is refl

pub two_too_many : (limit next : ℕ) (a b c : List ℕ) (make : ℕ → ℕ → Event)
    → binary (number limit) (number next) make (a ∷ b ∷ parts 32 c) ≡ Err UnknownWord
two_too_many limit next a b c make = rw (first_part 32 c).is refl
