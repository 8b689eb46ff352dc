-- The rest of a transcript's text after a position in it.
use Rattle.std.specs.Prelude.{ℕ, zero, suc, ◌≡◌, ◌+◌, ◌≤◌, ⊤, List, [], ◌∷◌, ◌++◌, codes, drop, length}
use Rattle.std.specs.List.{flat_map}
use Rattle.hex.specs.Hex.{encode_lower}
use Rattle.key_names.specs.Transcripts.SeenLine.{SeenLine, Shown, bytes_in}
use Rattle.key_names.specs.Texts.TranscriptGrammar.{shown_text, transcript_text}
use Rattle.transcript_text.specs.Lines.{text_of, whole_line}
use Rattle.transcript_text.specs.declared.printing.place.TextPosition.{TextPosition}
use Rattle.transcript_text.specs.declared.printing.place.TextAfter.{TextAfter}
use Rattle.transcript_text.specs.declared.printing.place.TextAfter.TheVariants.{Head, Lines, Nothing}

-- the text of all lines of `callers`, and then the last line, `end`
abbrev pub callers_text : List (List SeenLine) → List ℕ
callers_text callers = flat_map text_of callers ++ codes "end\n"

-- the text of a line's data that remains after the first `n` bytes of the data were put
abbrev pub data_left : ℕ → Shown → List ℕ
data_left zero shown = shown_text shown
data_left (suc n) shown = encode_lower (drop (suc n) (bytes_in shown))

-- the text of a line that remains after the first `n` bytes of its data were put; the whole line if `n` is 0
abbrev pub line_left : ℕ → SeenLine → List ℕ
line_left zero line = whole_line line
line_left (suc n) line = data_left (suc n) line.shown ++ codes "\n"

-- the text of `lines` that remains after the first `shown` data bytes of the first line were put
abbrev pub lines_left : ℕ → List SeenLine → List ℕ
lines_left shown [] = []
lines_left shown (line ∷ lines) = line_left shown line ++ text_of lines

-- `shown`, the number of data bytes that were put, is at most the number that the first line has
abbrev pub HasShown : ℕ → List SeenLine → Type 0
HasShown shown [] = shown ≡ 0
HasShown shown (line ∷ lines) = shown ≤ length (bytes_in line.shown)

-- the text that remains for `callers`. The first `line` lines of the first caller were put before, and then the first
-- `shown` data bytes of this caller's next line
abbrev pub callers_left : ℕ → ℕ → List (List SeenLine) → List ℕ
callers_left line shown [] = codes "end\n"
callers_left line shown (lines ∷ callers) = lines_left shown (drop line lines) ++ callers_text callers

abbrev pub HasShownOf : ℕ → ℕ → List (List SeenLine) → Type 0
HasShownOf line shown [] = (line ≡ 0) × (shown ≡ 0)
HasShownOf line shown (lines ∷ callers) = (line ≤ length lines) × HasShown shown (drop line lines)

abbrev pub left_from : TextAfter → TextPosition → List (List SeenLine) → List ℕ
left_from Head place callers = transcript_text callers
left_from Lines place callers = callers_left place.line place.shown (drop place.caller callers)
left_from Nothing place callers = []

-- the rest of a transcript's text after the position `place`
abbrev pub text_left : TextPosition → List (List SeenLine) → List ℕ
text_left place callers = left_from place.coming place callers

-- the position `place` is in the text of the transcript `callers`
abbrev pub IsFrom : TextAfter → TextPosition → List (List SeenLine) → Type 0
IsFrom Head place callers = (place.caller ≡ 0) × (place.line ≡ 0) × (place.shown ≡ 0)
IsFrom Lines place callers = (place.caller ≤ length callers)
    × HasShownOf place.line place.shown (drop place.caller callers)
IsFrom Nothing place callers = ⊤

abbrev pub IsIn : TextPosition → List (List SeenLine) → Type 0
IsIn place callers = IsFrom place.coming place callers

-- an upper bound for the number of pieces after the position
abbrev pub most_pieces : TextPosition → List (List SeenLine) → ℕ
most_pieces place callers = length (text_left place callers) + length (drop place.caller callers)
