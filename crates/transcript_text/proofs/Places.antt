-- The text after a position is the next piece, and then the text after the next position.
use Rattle.std.proofs.Common.{◌≡◌, ℕ, zero, suc, ◌+◌, ◌<◌, ◌≤◌, List, [], ◌∷◌, ◌++◌, Option, length, drop, take, slice_get, Some, refl, ap, sym, subst, ◌∙◌, append_assoc, arith}
use Rattle.std.specs.Prelude.{codes, IfSome}
use Rattle.std.specs.List.{flat_map}
use Rattle.std.proofs.lemmas.List.{length-append, drop-drop}
use Rattle.hex.specs.Hex.{encode_lower}
use Rattle.key_names.specs.Transcripts.SeenLine.{SeenLine, Shown, bytes, bytes_in, bytes_or_none}
use Rattle.key_names.specs.Texts.TranscriptGrammar.{shown_text, transcript_text}
use Rattle.key_names.proofs.Lists.ListFacts.{found_dropped}
use Rattle.transcript_text.specs.Heads.{head_text}
use Rattle.transcript_text.specs.Lines.{text_of}
use Rattle.transcript_text.specs.Places.{HasShown, IsFrom, IsIn, callers_left, callers_text, data_left, left_from, line_left, lines_left, most_pieces, text_left}
use Rattle.transcript_text.specs.declared.printing.place.TextAfter.TheVariants.{Head}
use Rattle.transcript_text.specs.declared.printing.place.TextPosition.{TextPosition}
use Rattle.transcript_text.specs.Views.{seen, seen_shown}
use Rattle.transcript_text.specs.declared.view.LineView.{LineView}
use Rattle.transcript_text.proofs.HexPieces.{next_hex}
use Rattle.transcript_text.proofs.WholeTexts.{line_is, transcript_text-parts}

-- ---- the parts of one line that are put

-- if no byte of a line's data was put, all of the data remain to be put
pub none_shown : (n : ℕ) (shown : Shown) → n ≡ 0 → data_left n shown ≡ shown_text shown
none_shown n shown e = rw e refl

-- if `head`, the part of a line before its data, is put, the line's data and line feed remain to be put
pub head_put : (line : LineView) (n : ℕ) (head : List ℕ) → n ≡ 0
    → head ≡ head_text line.caller line.event line.word line.answer line.steps.now
    → (head ++ data_left n (seen_shown line.shown)) ++ codes "\n" ≡ line_left n (seen line)
head_put line n head e is = rw e (ap (λ text. text ++ codes "\n") (line_is line head is))

pub begun : (n : ℕ) (line : SeenLine) → 0 < n → data_left n line.shown ++ codes "\n" ≡ line_left n line
begun zero line some = absurd (omega (arith, some))
begun (suc n) line some = refl

-- if a line's data are bytes, and the first `n` were put, the hex of the other bytes remains to be put
pub bytes_left : (n : ℕ) (shown : List ℕ) → data_left n (bytes shown) ≡ encode_lower (drop n shown)
unfolding shown_text
bytes_left zero shown = refl
bytes_left (suc n) shown = refl

some_bytes : (shown : List ℕ) → 0 < length shown → bytes_or_none shown ≡ bytes shown
some_bytes [] some = absurd (omega (arith, some))
some_bytes (b ∷ bs) some = refl

pub left_of_bytes : (n : ℕ) (shown : List ℕ) → 0 < length shown
    → data_left n (bytes_or_none shown) ≡ encode_lower (drop n shown)
left_of_bytes n shown some = ap (data_left n) (some_bytes shown some) ∙ bytes_left n shown

-- if the first `n` bytes were put before, and the next `count` bytes are in this piece, the bytes after both remain to
-- be put
pub bytes_on : (n count : ℕ) (shown rest front piece new : List ℕ) → rest ≡ drop n shown → front ≡ take count rest
    → new ≡ piece ++ encode_lower front
    → new ++ encode_lower (drop (n + count) shown) ≡ piece ++ encode_lower (drop n shown)
bytes_on n count shown rest front piece new following is put =
    let next : drop (n + count) shown ≡ drop count rest = sym (drop-drop count n shown) ∙ ap (drop count) (sym following) in
    sym (next_hex piece new rest front (drop (n + count) shown) count put is next)
    ∙ ap (λ bytes. piece ++ encode_lower bytes) following

-- ---- the lines of one caller

pub lines_whole : (lines : List SeenLine) → lines_left 0 lines ≡ text_of lines
lines_whole [] = refl
lines_whole (line ∷ lines) = refl

pub from_line : (n i : ℕ) (lines : List SeenLine) (line : SeenLine) → slice_get lines i ≡ Some line
    → lines_left n (drop i lines) ≡ line_left n line ++ text_of (drop (i + 1) lines)
from_line n i lines line at = ap (lines_left n) (found_dropped lines i line at)

pub shown_at : (n i : ℕ) (lines : List SeenLine) (line : SeenLine) → slice_get lines i ≡ Some line
    → HasShown n (drop i lines) → n ≤ length (bytes_in line.shown)
shown_at n i lines line at has = subst (HasShown n) (found_dropped lines i line at) has

pub has_shown : (n i : ℕ) (lines : List SeenLine) (line : SeenLine) → slice_get lines i ≡ Some line
    → n ≤ length (bytes_in line.shown) → HasShown n (drop i lines)
has_shown n i lines line at few = subst (HasShown n) (sym (found_dropped lines i line at)) few

-- what remains of the line `found` after `n` data bytes were put is `piece`, then the remaining data and a line feed
abbrev pub Begins : ℕ → List ℕ → Option SeenLine → Type 0
Begins n piece found = IfSome found (λ line. (piece ++ data_left n line.shown) ++ codes "\n" ≡ line_left n line)

-- if the whole rest of line `i` is put, with its line feed, the lines after line `i` remain to be put
pub line_ended : (n i : ℕ) (lines : List SeenLine) (line : SeenLine) (head piece new : List ℕ)
    → slice_get lines i ≡ Some line → Begins n head (slice_get lines i) → piece ≡ head ++ data_left n line.shown
    → new ≡ piece ++ codes "\n"
    → lines_left n (drop i lines) ≡ new ++ lines_left 0 (drop (i + 1) lines)
line_ended n i lines line head piece new at begins is end =
    let whole : new ≡ line_left n line = end ∙ ap (λ text. text ++ codes "\n") is ∙ subst (Begins n head) at begins in
    from_line n i lines line at ∙ ap (λ text. text ++ text_of (drop (i + 1) lines)) (sym whole)
    ∙ ap (λ text. new ++ text) (sym (lines_whole (drop (i + 1) lines)))

-- if only a part of the rest of line `i` is put, the other part and the lines after line `i` remain to be put
pub line_goes_on : (n more i : ℕ) (lines : List SeenLine) (line : SeenLine) (head piece : List ℕ)
    → slice_get lines i ≡ Some line → Begins n head (slice_get lines i) → 0 < more
    → piece ++ data_left more line.shown ≡ head ++ data_left n line.shown
    → lines_left n (drop i lines) ≡ piece ++ lines_left more (drop i lines)
line_goes_on n more i lines line head piece at begins some is =
    let rest = text_of (drop (i + 1) lines) in
    let whole : line_left n line ≡ piece ++ line_left more line =
    sym (subst (Begins n head) at begins) ∙ ap (λ text. text ++ codes "\n") (sym is)
    ∙ append_assoc piece (data_left more line.shown) (codes "\n")
    ∙ ap (λ text. piece ++ text) (begun more line some) in
    from_line n i lines line at ∙ ap (λ text. text ++ rest) whole ∙ append_assoc piece (line_left more line) rest
    ∙ ap (λ text. piece ++ text) (sym (from_line more i lines line at))

-- ---- the lines of all callers

pub callers_whole : (callers : List (List SeenLine)) → callers_left 0 0 callers ≡ callers_text callers
callers_whole [] = refl
callers_whole (lines ∷ callers) =
    ap (λ text. text ++ callers_text callers) (lines_whole lines)
    ∙ sym (append_assoc (text_of lines) (flat_map text_of callers) (codes "end\n"))

-- if the first line of the text is put, the callers' lines and the last line remain to be put
pub head_done : (place : TextPosition) (callers : List (List SeenLine)) (piece : List ℕ) → place.coming ≡ Head
    → IsIn place callers → piece ≡ codes "rngtranscript 1\n"
    → text_left place callers ≡ piece ++ callers_left place.line place.shown (drop place.caller callers)
head_done place callers piece is within put =
    let start : IsFrom Head place callers = subst (λ coming. IsFrom coming place callers) is within in
    let left : callers_left place.line place.shown (drop place.caller callers) ≡ callers_text callers =
    rw (start.0, start.1, start.2) (callers_whole callers) in
    ap (λ coming. left_from coming place callers) is ∙ transcript_text-parts callers
    ∙ ap (λ text. text ++ callers_text callers) (sym put) ∙ ap (λ text. piece ++ text) (sym left)

-- if a piece with at least one byte is put, the bound `most_pieces` becomes smaller
pub fewer_pieces : (old new : TextPosition) (callers : List (List SeenLine)) (piece : List ℕ)
    → text_left old callers ≡ piece ++ text_left new callers → 0 < length piece → new.caller ≡ old.caller
    → most_pieces new callers < most_pieces old callers
fewer_pieces old new callers piece is some same =
    let text : length (text_left old callers) ≡ length piece + length (text_left new callers) =
    ap length is ∙ length-append piece (text_left new callers) in
    let rest : length (drop new.caller callers) ≡ length (drop old.caller callers) =
    ap (λ caller. length (drop caller callers)) same in
    omega (arith, text, rest, some)

-- before the end of the text, at least the last line, `end`, remains to be put
pub some_left : (line shown : ℕ) (callers : List (List SeenLine)) → 0 < length (callers_left line shown callers)
some_left line shown [] = omega arith
some_left line shown (lines ∷ callers) =
    let a = length-append (lines_left shown (drop line lines)) (callers_text callers) in
    let b = length-append (flat_map text_of callers) (codes "end\n") in
    omega (arith, a, b)

-- a transcript's text has at least one byte
pub text_ends : (callers : List (List SeenLine)) → 0 < length (transcript_text callers)
text_ends callers =
    let a = length-append (codes "rngtranscript 1\n") (callers_text callers) in
    omega (arith, ap length (transcript_text-parts callers), a)
