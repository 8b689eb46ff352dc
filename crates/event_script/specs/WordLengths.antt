-- The event words of one length in bytes.
use Rattle.std.specs.Prelude.{◌≡◌, ℕ, ◌==◌, false, Option, Some, None, List, length}
use Rattle.std.specs.List.{AllByRecursion, filter}
use Rattle.std.specs.Str.{bytes_eq}
use Rattle.key_names.specs.declared.events.Word.{Word}
use Rattle.key_names.specs.Texts.Spelling.{word_text}
use Rattle.key_names.specs.Texts.ScriptFaults.{all_words}

abbrev pub of_length : ℕ → List Word → List Word
of_length n ws = filter (λ w. length (word_text w) == n) ws

-- the field does not spell the word
abbrev pub Misspelt : List ℕ → Word → Type 0
Misspelt field w = bytes_eq (word_text w) field ≡ false

-- the field spells the found word; if no word was found, the field spells no word of `n` bytes
abbrev pub IsAmong : ℕ → List ℕ → Option Word → Type 0
IsAmong n field None = AllByRecursion (Misspelt field) (of_length n all_words)
IsAmong n field (Some word) = field ≡ word_text word
