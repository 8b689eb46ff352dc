-- If the lines of two transcripts differ only in answers and data, the steps of both make the same book.
use Rattle.std.specs.Prelude.{◌≡◌, List, map}
use Rattle.key_names.specs.declared.events.Answer.TheVariants.{Ok as Done}
use Rattle.key_names.specs.Transcripts.SeenLine.{SeenLine, no_data}
use Rattle.key_names.specs.Texts.ScriptGrammar.{Script}
use Rattle.key_names.specs.Transcripts.IsTranscript.{MadeBook}

-- a line without its answer and its data
abbrev pub bare : SeenLine → SeenLine
bare line = record line { answer = Done; shown = no_data }

-- the lines of t and u are the same except for answers and data
abbrev pub SameSteps : List (List SeenLine) → List (List SeenLine) → Type 0
SameSteps t u = map (map bare) t ≡ map (map bare) u

-- if two transcripts differ only in answers and data, the steps of both make the same book and the same meanings
abbrev pub StepsMakeTheBook : Type 0
StepsMakeTheBook = (script : Script) (t u : List (List SeenLine)) → SameSteps t u → (made : MadeBook script t) →
    (other : MadeBook script u) × (other.book ≡ made.book) × (other.meanings ≡ made.meanings)
