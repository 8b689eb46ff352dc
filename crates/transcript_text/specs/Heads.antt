-- The text of a line up to its data.
use Rattle.std.specs.Prelude.{ℕ, List, ◌++◌, codes, decimal}
use Rattle.key_names.specs.declared.events.Answer.{Answer}
use Rattle.key_names.specs.declared.events.Word.{Word}
use Rattle.key_names.specs.declared.names.Step.{Step}
use Rattle.key_names.specs.Texts.Spelling.{word_text}
use Rattle.key_names.specs.Texts.TranscriptGrammar.{answer_text, steps_text}

-- the text of a line up to and including the space before its data
unfoldable pub head_text : ℕ → ℕ → Word → Answer → List Step → List ℕ
head_text caller event word answer steps =
    decimal caller ++ codes "." ++ decimal event ++ codes " " ++ word_text word ++ codes " "
    ++ answer_text answer ++ codes " " ++ steps_text steps ++ codes " "
