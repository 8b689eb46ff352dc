-- Comparing a text with the text of a transcript.
use Rattle.std.specs.Prelude.{ℕ, ◌≡◌, ◌≢◌, ◌≤◌, List, ◌++◌, drop, length}
use Rattle.key_names.specs.Transcripts.SeenLine.{SeenLine}
use Rattle.key_names.specs.Texts.TranscriptGrammar.{transcript_text}
use Rattle.transcript_text.specs.Places.{IsIn, text_left}
use Rattle.transcript_text.specs.declared.printing.place.TextPosition.{TextPosition}

-- the transcript `made`, and `text`, the bytes compared so far, which are a prefix of the transcript's text
pub record Compared : Type 0 where
  pub made : List (List SeenLine)
  pub text : List ℕ

-- no text that begins with `text` and then `bytes` is the text of the transcript
abbrev pub IsOther : List (List SeenLine) → List ℕ → List ℕ → Type 0
IsOther made text bytes = (following : List ℕ) → text ++ bytes ++ following ≢ transcript_text made

-- the first `same` bytes of the text of `made` were found equal; the rest of that text is `piece` from byte `from` on,
-- and then the text after `place`
pub record IsBefore (made : List (List SeenLine)) (same : ℕ) (piece : List ℕ) (from : ℕ) (place : TextPosition) : Type 0 where
  pub within : IsIn place made
  pub in_piece : from ≤ length piece
  pub few : same ≤ length (transcript_text made)
  pub next : drop same (transcript_text made) ≡ drop from piece ++ text_left place made
