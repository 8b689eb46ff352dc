-- The lines of a transcript, written with the answers and data that were made from their steps.
use Rattle.std.specs.Prelude.{ℕ, ◌≡◌, ◌≢◌, ⊤, Option, Some, None, List, [], ◌∷◌, map, slice_get}
use Rattle.key_names.specs.declared.events.Word.{Word}
use Rattle.key_names.specs.declared.events.Word.TheVariants.{Bits}
use Rattle.key_names.specs.Transcripts.SeenLine.{SeenLine, Shown, no_data, bytes, count}
use Rattle.judge_log.specs.declared.said.MadeLine.{MadeLine}
use Rattle.judge_log.specs.declared.said.ShownRecipe.{ShownRecipe}
use Rattle.judge_log.specs.declared.said.ShownRecipe.TheVariants.{Nothing, Count, Served}
use Rattle.judge_log.specs.Said.{shown_by}
use Rattle.judge_vread.specs.Recipe.{bytes_made}

-- the bytes of a line's data, made from their recipe; none if the data are a number or nothing
abbrev pub bytes_said : ShownRecipe → List ℕ
bytes_said Nothing = []
bytes_said (Count n) = []
bytes_said (Served recipe) = bytes_made recipe

abbrev pub said_of : SeenLine → Option MadeLine → SeenLine
said_of line None = line
said_of line (Some s) = record line { answer = s.answer; shown = shown_by s.shows }

abbrev pub lines_said : List MadeLine → List SeenLine → List SeenLine
lines_said said lines = map (λ line. said_of line (slice_get said line.event)) lines

abbrev pub said_into : List (List MadeLine) → List (List SeenLine) → List (List SeenLine)
said_into saids [] = []
said_into [] (lines ∷ t) = lines ∷ said_into [] t
said_into (said ∷ saids) (lines ∷ t) = lines_said said lines ∷ said_into saids t

-- data that the line's word allows: a number only for the word `bits`, and bytes only for other words
abbrev pub IsFor : Word → Shown → Type 0
IsFor word no_data = ⊤
IsFor word (bytes shown) = word ≢ Bits
IsFor word (count n) = word ≡ Bits

abbrev pub MayShow : SeenLine → MadeLine → Type 0
MayShow line one = IsFor line.word (shown_by one.shows)
