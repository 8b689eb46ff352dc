-- Cutting a text at the first byte of a given value, and the faults of lines with too many fields.
use Rattle.std.proofs.Common.{◌≡◌, Err, ℕ, ◌+◌, ◌-◌, ◌<◌, Some, None, List, [], ◌∷◌, ◌++◌, get_or, length, take, drop, refl, sym, ap, ◌∙◌, arith, add-one, drop-cons}
use Rattle.std.proofs.lemmas.Bool.{false_from_ne_true, eqb-true}
use Rattle.std.proofs.lemmas.List.{take-append-drop, get_or-take, get_or_default, length-take}
use Rattle.std.proofs.lemmas.Grind.{common_steps}
use Rattle.memchr.specs.Find.{IsFirstByte, is_byte}
use Rattle.key_names.specs.Texts.ScriptFaults.{parts}
use Rattle.key_names.specs.declared.faults.FaultKind.{FaultKind}
use Rattle.key_names.specs.Texts.ScriptFaults.{inside_of, no_field, one_field, two_fields}
use Rattle.key_names.specs.declared.faults.FaultKind.TheVariants.{UnknownWord}
use Rattle.key_names.proofs.Script.Parts.{Lacks, first_part, parts_at, parts_whole}

pub nowhere : (byte : ℕ) (text : List ℕ) → IsFirstByte (is_byte byte) text None → parts byte text ≡ text ∷ []
nowhere byte text h =
    parts_whole byte text (λ k d in_text. rw (get_or_default text k d 0 in_text)
    (false_from_ne_true _ (h k (omega arith) in_text)))

split_there : (byte place : ℕ) (text : List ℕ) → place < length text → get_or text place 0 ≡ byte
    → take place text ++ byte ∷ drop (place + 1) text ≡ text
split_there byte place text in_text is =
    rw (add-one, ← is, ← drop-cons text place 0 in_text) (take-append-drop place text)

pub at_place : (byte place : ℕ) (text : List ℕ) → IsFirstByte (is_byte byte) text (Some place)
    → parts byte text ≡ take place text ∷ parts byte (drop (place + 1) text)
at_place byte place text h =
    let front : Lacks byte (take place text) = λ k d below.
    let before : k < place = omega (arith, length-take place text) in
    rw (get_or-take place text k d before, get_or_default text k d 0 (omega (arith, length-take place text)))
    (false_from_ne_true _ (h.0.before k (omega arith) before)) in
    ap (parts byte) (sym (split_there byte place text h.0.high (eqb-true _ _ h.1)))
    ∙ parts_at byte (take place text) (drop (place + 1) text) front

-- the first `length text - n` bytes after the first `n` bytes are the whole rest of the text
pub rest_of : {A : Type 0} (n : ℕ) (text : List A) → take (length text - n) (drop n text) ≡ drop n text
rest_of n text = grind (arith, common_steps)

-- ---- More fields than the event has: the fault is `UnknownWord`

pub some_field : (text : List ℕ) → no_field (parts 32 text) ≡ Err UnknownWord
some_field text = rw (first_part 32 text).is refl

pub more_than_one : (a text : List ℕ) → one_field (a ∷ parts 32 text) ≡ Err UnknownWord
more_than_one a text = rw (first_part 32 text).is refl

pub more_than_two : (a b text : List ℕ) → two_fields (a ∷ b ∷ parts 32 text) ≡ Err UnknownWord
more_than_two a b text = rw (first_part 32 text).is refl

-- if `last`, the text after the word of the act, is not one field, the `inside` line has the same fault `kind`
pub act_fault : (point act last : List ℕ) (kind : FaultKind) → one_field (parts 32 last) ≡ Err kind
    → inside_of (point ∷ act ∷ parts 32 last) ≡ Err kind
act_fault point act last kind e = let p = first_part 32 last in rw (p.is, rw p.is at e) refl
