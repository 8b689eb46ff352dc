-- The text after a script in an input: it was compared with a transcript's text, or fed to a reader.
use Rattle.std.specs.Prelude.{ℕ, ◌≡◌, ◌≤◌, List, Option, None, Some, length}
use Rattle.key_names.specs.Texts.ScriptFaults.{front}
use Rattle.key_names.specs.Texts.ScriptGrammar.{Script, IsScript}
use Rattle.key_names.specs.Transcripts.SeenLine.{SeenLine}
use Rattle.key_names.specs.Texts.TranscriptGrammar.{transcript_text}
use Rattle.transcript_text.specs.Feeding.{HasFed, most_lines}
use Rattle.tool_ends.specs.Pairs.{following, most_input, most_script_lines}
use Rattle.tool_ends.specs.Reads.{WasRead}
use Rattle.tool_ends.specs.declared.following.After.{After}
use Rattle.tool_ends.specs.declared.following.After.TheVariants.{Compared, Fed}

-- `text` is the text that was compared so far, or that the reader was fed so far
abbrev pub HoldsText : List ℕ → After → Type 0
HoldsText text (Compared comparison) = text ≡ comparison.text
HoldsText text (Fed reader) = HasFed text reader × (most_lines reader ≡ most_script_lines)

-- the transcript whose text is compared with the text after the script, or None if there is no comparison
abbrev pub compared_with : After → Option (List (List SeenLine))
compared_with (Compared comparison) = Some comparison.made
compared_with (Fed reader) = None

-- the text was compared with a transcript's text to the end, and is equal to it
abbrev pub IsWhole : After → Type 0
IsWhole (Compared comparison) = comparison.text ≡ transcript_text comparison.made
IsWhole (Fed reader) = ⊥

-- the input consists of `script`, and then `text`
pub record IsApart (input : List ℕ) (script : Script) (text : After) : Type 0 where
  pub short : length input ≤ most_input
  pub is_script : IsScript script (front input)
  pub holds : HoldsText (following input) text

-- the source gave an input, and this input consists of `script`, and then `text`
abbrev pub GivesApart : Option (List ℕ) → Option (List ℕ) → Script → After → Type 0
GivesApart left left_after script text =
    (input : List ℕ) × WasRead most_input left left_after input × IsApart input script text
