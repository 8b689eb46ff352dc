-- A field spells a word if and only if it spells one of the words of its own length.
use Rattle.std.proofs.Common.{◌≡◌, ℕ, ◌≤◌, ◌==◌, leb, Bool, true, false, inl, inr, None, Some, Option, List, [], ◌∷◌, length, refl, sym, ap, ◌∙◌, arith}
use Rattle.std.specs.List.{AllByRecursion, find, list_all}
use Rattle.std.specs.Prelude.{◌&&◌, codes}
use Rattle.std.specs.Str.{bytes_eq}
use Rattle.std.proofs.lemmas.Bool.{and_parts, cases_Bool, eq-eqb, false_from_ne_true, leb-true}
use Rattle.std.proofs.lemmas.Slice.Eq.{bytes_eq-Decides}
use Rattle.key_names.specs.declared.events.Word.{Word}
use Rattle.key_names.specs.Texts.Spelling.{word_text}
use Rattle.key_names.specs.Texts.ScriptFaults.{all_words, said_by, said_by_word, word_of}
use Rattle.key_names.proofs.Script.SaidLines.{word_again}
use Rattle.event_script.specs.WordLengths.{of_length, Misspelt, IsAmong}

abbrev spelt_in : List ℕ → List Word → Option Word
spelt_in field ws = find (λ w. bytes_eq (word_text w) field) ws

other_length : (field : List ℕ) (w : Word) → (length (word_text w) == length field) ≡ false
    → bytes_eq (word_text w) field ≡ false
other_length field w not = false_from_ne_true _ (λ same.
    let is = ap length ((bytes_eq-Decides (word_text w) field).0 same) in
    absurd (let e = eq-eqb (length (word_text w)) (length field) is in cc))

by_length : (field : List ℕ) (ws : List Word) → spelt_in field (of_length (length field) ws) ≡ spelt_in field ws
by_length field [] = refl
by_length field (w ∷ ws) =
    elim (cases_Bool (length (word_text w) == length field)) [
      | inl same ↦ rw (same, by_length field ws) refl
      | inr not ↦ rw (not, other_length field w not) (by_length field ws)
    ]

word_of_length : (n : ℕ) (field : List ℕ) → length field ≡ n → word_of field ≡ spelt_in field (of_length n all_words)
word_of_length n field is = rw (← is) (sym (by_length field all_words))

none_of : (field : List ℕ) (ws : List Word) → AllByRecursion (Misspelt field) ws → spelt_in field ws ≡ None
none_of field [] none = refl
none_of field (w ∷ ws) none = rw none.0 (none_of field ws none.1)

no_word : (n : ℕ) (field : List ℕ) → length field ≡ n → AllByRecursion (Misspelt field) (of_length n all_words)
    → None ≡ word_of field
no_word n field is none = sym (word_of_length n field is ∙ none_of field (of_length n all_words) none)

-- if `found` is the result of a search among the words of the field's length `n`, it is the word that the field spells,
-- or none if the field spells no word
pub among : (n : ℕ) (field : List ℕ) (found : Option Word) → length field ≡ n → IsAmong n field found →
    found ≡ word_of field
among n field None is none = no_word n field is none
among n field (Some word) is spelt = rw spelt (sym (word_again word))

-- whether a word has from 2 to 7 bytes
abbrev in_length : Word → Bool
in_length w = leb 2 (length (word_text w)) && leb (length (word_text w)) 7

none_outside : (field : List ℕ) (ws : List Word) → (2 ≤ length field → 8 ≤ length field)
    → list_all in_length ws ≡ true → spelt_in field ws ≡ None
none_outside field [] outside all = refl
none_outside field (w ∷ ws) outside all =
    let both = and_parts (in_length w) (list_all in_length ws) all in
    let len = and_parts (leb 2 (length (word_text w))) (leb (length (word_text w)) 7) both.0 in
    let other : Misspelt field w = false_from_ne_true _ (λ same.
    let is = ap length ((bytes_eq-Decides (word_text w) field).0 same) in
    let least = leb-true 2 (length (word_text w)) len.0 in
    let most = leb-true (length (word_text w)) 7 len.1 in
    let long = outside (omega arith) in omega arith) in
    rw other (none_outside field ws outside both.1)

pub no_word_outside : (field : List ℕ) → (2 ≤ length field → 8 ≤ length field) → None ≡ word_of field
no_word_outside field outside = sym (none_outside field all_words outside refl)

-- ---- a line whose first field is a word

no_caller : (field : List ℕ) (word : Word) → word_of field ≡ Some word → bytes_eq field (codes "caller") ≡ false
no_caller field word is = false_from_ne_true _ (λ same.
    let caller = (bytes_eq-Decides field (codes "caller")).0 same in
    let none = rw caller at is in absurd cc)

pub says_word : (version cpus : ℕ) (first : List ℕ) (fields : List (List ℕ)) (word : Word) → word_of first ≡ Some word
    → said_by version cpus (first ∷ fields) ≡ said_by_word version cpus fields word
says_word version cpus first fields word is = rw (no_caller first word is, is) refl
