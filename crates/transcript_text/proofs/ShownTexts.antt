-- A line's data are read from their spelling. No other data of the same word have that spelling.
use Rattle.std.proofs.Common.{◌≡◌, ℕ, ◌<◌, ◌^◌, Bool, List, [], ◌∷◌, length, Option, Some, None, Result, Ok, Err, refl, sym, ap, subst, ◌∙◌, arith}
use Rattle.std.specs.Prelude.{codes, decimal, IfOk, IfSome, MatchBool}
use Rattle.std.specs.Option.{is_some, option_map}
use Rattle.hex.specs.Hex.{IsBytes}
use Rattle.key_names.specs.declared.events.Word.{Word}
use Rattle.key_names.specs.declared.events.Word.TheVariants.{Bits}
use Rattle.key_names.specs.declared.lines.Data.{Data}
use Rattle.key_names.specs.Transcripts.SeenLine.{Shown, no_data, bytes, count, bytes_or_none, shown_in}
use Rattle.key_names.specs.Texts.ScriptFaults.{bytes_of}
use Rattle.key_names.specs.Texts.Spelling.{hex}
use Rattle.key_names.specs.Texts.TranscriptGrammar.{shown_text, ShownFits}
use Rattle.key_names.proofs.Script.HexFields.{bytes_takes, bytes_again}
use Rattle.transcript_text.specs.Gathered.{IsWithin}
use Rattle.transcript_text.specs.Reading.{Reads}
use Rattle.transcript_text.specs.Shows.{NamesSpelt, KeepsSpelt, SpellsData, SpellsNoData}
use Rattle.transcript_text.proofs.Keeping.{shown_in-bytes_from, bytes_from_within}

pub shown_text-bytes : (shown : List ℕ) → shown_text (bytes_or_none shown) ≡ hex shown
unfolding shown_text
shown_text-bytes [] = refl
shown_text-bytes (b ∷ shown) = refl

bytes_fit : (word : Word) (shown : List ℕ) → (word ≡ Bits → ⊥) → IsBytes shown → ShownFits word (bytes_or_none shown)
bytes_fit word [] not small = tt
bytes_fit word (b ∷ shown) not small = (not, omega arith, small)

spelt_bytes : (word : Word) (text : List ℕ) (shown : Shown) → (word ≡ Bits → ⊥) → ShownFits word shown
    → text ≡ shown_text shown → bytes_of text ≡ None → ⊥
unfolding shown_text
spelt_bytes word text no_data not fits e none = let p = ap bytes_of e ∙ bytes_again [] (λ k. omega arith) in cc
spelt_bytes word text (bytes []) not fits e none = omega (arith, fits.1)
spelt_bytes word text (bytes (b ∷ shown)) not fits e none = let p = ap bytes_of e ∙ bytes_again (b ∷ shown) fits.2 in cc
spelt_bytes word text (count n) not fits e none = not fits.0

-- on a line whose word is not `bits`, a text that spells bytes spells data
pub reads_bytes : (word : Word) (text : List ℕ) (shown : List ℕ) → (word ≡ Bits → ⊥) → Some shown ≡ bytes_of text
    → ShownFits word (bytes_or_none shown) × (text ≡ shown_text (bytes_or_none shown))
reads_bytes word text shown not e =
    let p = bytes_takes text shown (sym e) in (bytes_fit word shown not p.1, p.0 ∙ sym (shown_text-bytes shown))

pub reads_no_bytes : (word : Word) (text : List ℕ) → (word ≡ Bits → ⊥) → None ≡ bytes_of text → (shown : Shown)
    → ShownFits word shown → text ≡ shown_text shown → ⊥
reads_no_bytes word text not e shown fits is = spelt_bytes word text shown not fits is (sym e)

-- on a line whose word is `bits`, a number below 2 ^ 32 in decimal spells data
pub reads_count : (word : Word) (text : List ℕ) (n : ℕ) → word ≡ Bits → n < 2 ^ 32 → text ≡ decimal n
    → ShownFits word (count n) × (text ≡ shown_text (count n))
unfolding shown_text
reads_count word text n is small e = ((is, small), e)

pub reads_dash : (word : Word) (text shown : List ℕ) → shown ≡ [] → text ≡ codes "-"
    → ShownFits word (bytes_or_none shown) × (text ≡ shown_text (bytes_or_none shown))
unfolding shown_text
reads_dash word text shown is e = rw is (tt, e)

pub reads_no_count : (word : Word) (text : List ℕ) → word ≡ Bits → (text ≡ codes "-" → ⊥)
    → ((n : ℕ) → n < 2 ^ 32 → text ≡ decimal n → ⊥)
    → (shown : Shown) → ShownFits word shown → text ≡ shown_text shown → ⊥
unfolding shown_text
reads_no_count word text is dash none no_data fits e = dash e
reads_no_count word text is dash none (bytes shown) fits e = fits.0 is
reads_no_count word text is dash none (count n) fits e = none n fits.1 e

-- ---- data whose bytes were appended to the kept bytes

kept_shows : (text old new : List ℕ) (named : Data) (n : NamesSpelt text old new named)
    → shown_in new named ≡ bytes_or_none n.appends.bytes
kept_shows text old new named n = rw (n.named_is, n.appends.whole) (shown_in-bytes_from old n.appends.bytes)

pub reads_kept : {E : Type 0} (word : Word) (text old new : List ℕ) (answer : Result (Option Data) E)
    → (word ≡ Bits → ⊥) → IfOk answer (KeepsSpelt text old new)
    → IfOk answer (λ named. Reads shown_text (ShownFits word) text (option_map (shown_in new) named))
reads_kept word text old new (Ok None) not none = reads_no_bytes word text not (sym none)
reads_kept word text old new (Ok (Some named)) not n =
    subst (λ (shown : Shown). ShownFits word shown × (text ≡ shown_text shown)) (sym (kept_shows text old new named n))
    (reads_bytes word text n.appends.bytes not (sym n.appends.spelt))
reads_kept word text old new (Err e) not k = tt

pub within_kept : {E : Type 0} (text old new : List ℕ) (answer : Result (Option Data) E)
    → IfOk answer (KeepsSpelt text old new) → IfOk answer (λ named. IfSome named (IsWithin (length new)))
within_kept text old new (Ok None) none = tt
within_kept text old new (Ok (Some named)) n =
    rw (n.named_is, n.appends.whole) (bytes_from_within old n.appends.bytes)
within_kept text old new (Err e) k = tt

-- ---- whether a text spells data

spells_as : (word : Word) (text : List ℕ) (found : Option (List ℕ)) → (word ≡ Bits → ⊥) → found ≡ bytes_of text
    → MatchBool (is_some found) (SpellsData word text) (SpellsNoData word text)
spells_as word text None not is = reads_no_bytes word text not is
spells_as word text (Some shown) not is =
    let reads = reads_bytes word text shown not is in
    record { shown = bytes_or_none shown; fits = reads.0; spelt = reads.1 }

pub spells_found : (word : Word) (text : List ℕ) (spells : Bool) → (word ≡ Bits → ⊥) → spells ≡ is_some (bytes_of text)
    → MatchBool spells (SpellsData word text) (SpellsNoData word text)
spells_found word text spells not is =
    subst (λ (b : Bool). MatchBool b (SpellsData word text) (SpellsNoData word text)) (sym is)
    (spells_as word text (bytes_of text) not refl)

pub spells_dash : (word : Word) (text : List ℕ) → text ≡ codes "-" → SpellsData word text
spells_dash word text is =
    let reads = reads_dash word text [] refl is in record { shown = no_data; fits = reads.0; spelt = reads.1 }

pub spells_count : (word : Word) (text : List ℕ) (found : Option ℕ) → word ≡ Bits → (text ≡ codes "-" → ⊥)
    → Reads decimal (λ n. n < 2 ^ 32) text found
    → MatchBool (is_some found) (SpellsData word text) (SpellsNoData word text)
spells_count word text None is dash none = reads_no_count word text is dash none
spells_count word text (Some n) is dash reads =
    let all = reads_count word text n is reads.0 reads.1 in
    record { shown = count n; fits = all.0; spelt = all.1 }
