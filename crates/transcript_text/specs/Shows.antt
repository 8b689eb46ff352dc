-- Reading the data of a line.
use Rattle.std.specs.Prelude.{ℕ, ◌≡◌, ◌≢◌, List, ◌++◌, length, Option, Some, None}
use Rattle.key_names.specs.declared.events.Word.{Word}
use Rattle.key_names.specs.declared.lines.Data.{Data}
use Rattle.key_names.specs.Transcripts.SeenLine.{Shown}
use Rattle.key_names.specs.Texts.ScriptFaults.{bytes_of}
use Rattle.key_names.specs.Texts.TranscriptGrammar.{shown_text, ShownFits}
use Rattle.transcript_text.specs.Gathered.{bytes_from}

-- `text` spells bytes, and `new` is `old` with these bytes appended
pub record AppendsSpelt (text old new : List ℕ) : Type 0 where
  pub bytes : List ℕ
  pub spelt : bytes_of text ≡ Some bytes
  pub whole : new ≡ old ++ bytes

-- `text` spells bytes, `new` is `old` with these bytes appended, and the data `named` refer to the appended bytes
pub record NamesSpelt (text old new : List ℕ) (named : Data) : Type 0 where
  pub appends : AppendsSpelt text old new
  pub named_is : named ≡ bytes_from (length old) appends.bytes

-- if there are data, they refer to the appended bytes that `text` spells; if there are none, `text` spells no bytes
abbrev pub KeepsSpelt : List ℕ → List ℕ → List ℕ → Option Data → Type 0
KeepsSpelt text old new (Some named) = NamesSpelt text old new named
KeepsSpelt text old new None = bytes_of text ≡ None

-- `text` spells data, as the last field of a line with this word
pub record SpellsData (word : Word) (text : List ℕ) : Type 0 where
  pub shown : Shown
  pub fits : ShownFits word shown
  pub spelt : text ≡ shown_text shown

abbrev pub SpellsNoData : Word → List ℕ → Type 0
SpellsNoData word text = (shown : Shown) → ShownFits word shown → text ≢ shown_text shown
