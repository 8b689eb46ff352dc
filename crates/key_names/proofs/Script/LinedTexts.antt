-- A text of printable lines is split into these lines, and a line of fields without spaces into these fields.
use Rattle.std.proofs.Common.{◌≡◌, ℕ, ◌^◌, ◌<◌, ◌==◌, ltb, leb, Bool, true, false, ◌&&◌, inl, inr, List, [], ◌∷◌, ◌++◌, refl, sym, ap, ◌∙◌, arith, append_assoc}
use Rattle.std.specs.Fmt.{decimal}
use Rattle.std.specs.List.{AllByRecursion, join_with_byte, list_all, list_any}
use Rattle.std.specs.Str.Parse.{AllDigits}
use Rattle.std.proofs.lemmas.Bool.{and_parts, le-ltb, lt-ltb, ltb-true, ne_eqb, or_from, and_from, or_cases, leb-true}
use Rattle.std.proofs.lemmas.List.{append-nil}
use Rattle.std.proofs.lemmas.List.Elements.{All-from_recursion}
use Rattle.std.proofs.lemmas.List.Concat.{flat_map-cons}
use Rattle.std.proofs.lemmas.List.Splits.{join_with_byte-slice_split}
use Rattle.std.proofs.lemmas.Str.Parse.{digit_from_value}
use Rattle.hex.specs.Hex.{IsBytes}
use Rattle.key_names.specs.declared.events.Word.{Word}
use Rattle.key_names.specs.declared.events.Word.TheVariants.{End}
use Rattle.key_names.specs.Texts.Spelling.{AllLower, is_lower_digit, hex, spaced, lined, word_text}
use Rattle.key_names.specs.Texts.ScriptFaults.{parts, is_unprintable}
use Rattle.key_names.proofs.Script.HexFields.{lower_encoded}
use Rattle.key_names.proofs.Script.Numbers.{IsNumber-decimal}
use Rattle.key_names.proofs.Script.Parts.{Lacks, parts_at, parts_whole}

-- ---- fields without spaces

abbrev pub is_graphic : ℕ → Bool
is_graphic b = ltb 32 b && ltb b 127

abbrev pub Clean : List ℕ → Type 0
Clean field = AllByRecursion (λ b. is_graphic b ≡ true) field

pub clean_by : (field : List ℕ) → list_all is_graphic field ≡ true → Clean field
clean_by [] e = tt
clean_by (b ∷ field) e =
    let both = and_parts (is_graphic b) (list_all is_graphic field) e in
    (both.0, clean_by field both.1)

graphic : (b : ℕ) → 32 < b → b < 127 → is_graphic b ≡ true
graphic b low high = and_from _ _ (lt-ltb _ _ low) (lt-ltb _ _ high)

clean_digits : (field : List ℕ) → AllDigits 10 field → Clean field
clean_digits [] digits = tt
clean_digits (c ∷ field) digits =
    let range = digit_from_value c digits.0 in
    (graphic c (omega arith) (omega arith), clean_digits field digits.1)

pub clean_decimal : (n : ℕ) → n < 2 ^ 64 → Clean (decimal n)
clean_decimal n small = clean_digits (decimal n) (IsNumber-decimal n small).digits

lower_graphic : (c : ℕ) → is_lower_digit c ≡ true → is_graphic c ≡ true
lower_graphic c lower =
    elim (or_cases (leb 48 c && leb c 57) (leb 97 c && leb c 102) lower) [
      | inl number ↦
          let both = and_parts (leb 48 c) (leb c 57) number in
          let low = leb-true _ _ both.0 in
          let high = leb-true _ _ both.1 in
          graphic c (omega arith) (omega arith)
      | inr letter ↦
          let both = and_parts (leb 97 c) (leb c 102) letter in
          let low = leb-true _ _ both.0 in
          let high = leb-true _ _ both.1 in
          graphic c (omega arith) (omega arith)
    ]

clean_lower : (field : List ℕ) → AllLower field → Clean field
clean_lower [] lower = tt
clean_lower (c ∷ field) lower = (lower_graphic c lower.0, clean_lower field lower.1)

pub clean_hex : (bytes : List ℕ) → IsBytes bytes → Clean (hex bytes)
clean_hex [] small = clean_by (hex []) refl
clean_hex (b ∷ bytes) small = clean_lower (hex (b ∷ bytes)) (lower_encoded (b ∷ bytes) small)

graphic_word : (word : Word) → list_all is_graphic (word_text word) ≡ true
graphic_word End = refl
graphic_word _ = refl

pub clean_word : (word : Word) → Clean (word_text word)
clean_word word = clean_by (word_text word) (graphic_word word)

-- ---- splitting a line into its fields

not_space : (b : ℕ) → is_graphic b ≡ true → (b == 32) ≡ false
not_space b g = let low = ltb-true _ _ (and_parts (ltb 32 b) (ltb b 127) g).0 in ne_eqb b 32 (λ e. omega arith)

spaceless : (field : List ℕ) → Clean field → AllByRecursion (λ b. (b == 32) ≡ false) field
spaceless [] clean = tt
spaceless (b ∷ field) clean = (not_space b clean.0, spaceless field clean.1)

lacks_space : (field : List ℕ) → Clean field → Lacks 32 field
lacks_space field clean = All-from_recursion (λ b. (b == 32) ≡ false) field (spaceless field clean)

-- a line of fields without spaces (`Clean`) is split into these fields
pub parts_spaced : (field : List ℕ) (fields : List (List ℕ)) → Clean field → AllByRecursion Clean fields
    → parts 32 (spaced (field ∷ fields)) ≡ field ∷ fields
parts_spaced field [] clean others = parts_whole 32 field (lacks_space field clean)
parts_spaced field (next ∷ fields) clean others =
    parts_at 32 field (spaced (next ∷ fields)) (lacks_space field clean)
    ∙ ap (λ (rest : List (List ℕ)). field ∷ rest) (parts_spaced next fields others.0 others.1)

-- the parts of a line, joined by spaces, are the line
pub spaced_parts : (line : List ℕ) → spaced (parts 32 line) ≡ line
spaced_parts line = join_with_byte-slice_split 32 line

-- ---- lines of printable characters

abbrev pub Printable : List ℕ → Type 0
Printable line = AllByRecursion (λ b. is_unprintable b ≡ false) line

printable_graphic : (b : ℕ) → is_graphic b ≡ true → is_unprintable b ≡ false
printable_graphic b g =
    let both = and_parts (ltb 32 b) (ltb b 127) g in
    let low = ltb-true _ _ both.0 in
    let high = ltb-true _ _ both.1 in
    or_from (ltb b 0x20) (ltb 0x7e b) (le-ltb b 0x20 (omega arith)) (le-ltb 0x7e b (omega arith))

printable_field : (field rest : List ℕ) → Clean field → Printable rest → Printable (field ++ rest)
printable_field [] rest clean others = others
printable_field (b ∷ field) rest clean others = (printable_graphic b clean.0, printable_field field rest clean.1 others)

pub printable_clean : (field : List ℕ) → Clean field → Printable field
printable_clean [] clean = tt
printable_clean (b ∷ field) clean = (printable_graphic b clean.0, printable_clean field clean.1)

pub printable_spaced : (fields : List (List ℕ)) → AllByRecursion Clean fields → Printable (spaced fields)
printable_spaced [] clean = tt
printable_spaced (field ∷ []) clean = printable_clean field clean.0
printable_spaced (field ∷ next ∷ fields) clean =
    printable_field field (32 ∷ spaced (next ∷ fields)) clean.0 (refl, printable_spaced (next ∷ fields) clean.1)

pub none_unprintable : (line : List ℕ) → Printable line → list_any is_unprintable line ≡ false
none_unprintable [] fine = refl
none_unprintable (b ∷ line) fine = or_from _ _ fine.0 (none_unprintable line fine.1)

pub not_feed : (b : ℕ) → is_unprintable b ≡ false → (b == 10) ≡ false
not_feed b fine = ne_eqb b 10 (λ e. let bad : is_unprintable 10 ≡ false = rw e at fine in absurd cc)

feedless : (line : List ℕ) → Printable line → AllByRecursion (λ b. (b == 10) ≡ false) line
feedless [] fine = tt
feedless (b ∷ line) fine = (not_feed b fine.0, feedless line fine.1)

-- ---- splitting a text into its lines

-- a text of printable lines is split into these lines, with nothing after the last
pub parts_lined : (lines : List (List ℕ)) → AllByRecursion Printable lines → parts 10 (lined lines) ≡ lines ++ [] ∷ []
parts_lined [] fine = refl
parts_lined (line ∷ lines) fine =
    ap (parts 10) (flat_map-cons (λ (l : List ℕ). l ++ 10 ∷ []) line lines ∙ append_assoc line (10 ∷ []) (lined lines))
    ∙ parts_at 10 line (lined lines) (All-from_recursion (λ b. (b == 10) ≡ false) line (feedless line fine.0))
    ∙ ap (λ (rest : List (List ℕ)). line ∷ rest) (parts_lined lines fine.1)

joined_lines : (lines : List (List ℕ)) → join_with_byte 10 (lines ++ [] ∷ []) ≡ lined lines
joined_lines [] = refl
joined_lines (line ∷ []) = simp append-nil
joined_lines (line ∷ next ∷ lines) =
    ap (λ (rest : List ℕ). line ++ 10 ∷ rest) (joined_lines (next ∷ lines))
    ∙ sym (append_assoc line (10 ∷ []) (lined (next ∷ lines)))
    ∙ sym (flat_map-cons (λ (l : List ℕ). l ++ 10 ∷ []) line (next ∷ lines))

-- a text that is split into lines, with nothing after the last, is the text of those lines
pub lined_parts : (text : List ℕ) (lines : List (List ℕ)) → parts 10 text ≡ lines ++ [] ∷ [] → text ≡ lined lines
lined_parts text lines e = sym (join_with_byte-slice_split 10 text) ∙ ap (join_with_byte 10) e ∙ joined_lines lines
