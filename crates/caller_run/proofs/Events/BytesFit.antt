-- The data of a line fit the line's word. Numbers shown as bytes are bytes, and a shown count is below 2^32.
use Rattle.std.proofs.Common.{◌≡◌, ℕ, List, [], ◌∷◌, Fits, w8, arith}
use Rattle.std.specs.Prelude.{slice_index, ◌<◌, ◌^◌, ⊤}
use Rattle.key_names.specs.declared.events.Word.{Word}
use Rattle.key_names.specs.declared.events.Word.TheVariants.{Bits}
use Rattle.key_names.specs.Transcripts.SeenLine.{bytes_or_none}
use Rattle.key_names.specs.Texts.TranscriptGrammar.{ShownFits}
use Rattle.caller_run.specs.Says.{shown_by, ShowsFit}
use Rattle.caller_run.specs.declared.output.reply.LineData.{LineData}
use Rattle.caller_run.specs.declared.output.reply.LineData.TheVariants.{Nothing, Served, Count}

pub bytes_fit : (word : Word) (bytes : List ℕ) → (word ≡ Bits → ⊥) → ((i : ℕ) → Fits w8 (slice_index bytes i)) →
    ShownFits word (bytes_or_none bytes)
bytes_fit word [] other is = tt
bytes_fit word (b ∷ bytes) other is = (other, omega arith, λ i. let byte = is i in omega arith)

-- if the data of a line are a count, this count is below 2^32
abbrev pub IsSmall : LineData → Type 0
IsSmall (Count n) = n < 2 ^ 32
IsSmall _ = ⊤

-- if the served numbers are bytes, a shown count is below 2^32, and `ShowsFit` holds, the data fit a line with this
-- word
pub shown_fits : (word : Word) (served : List ℕ) (shows : LineData) → ShowsFit word shows →
    ((i : ℕ) → Fits w8 (slice_index served i)) → IsSmall shows → ShownFits word (shown_by served shows)
shown_fits word served Nothing fit bytes small = tt
shown_fits word served Served fit bytes small = bytes_fit word served fit bytes
shown_fits word served (Count n) fit bytes small = (fit, small)
