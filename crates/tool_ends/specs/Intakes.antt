-- Taking an input piece by piece, and the script that was found at its front.
use Rattle.std.specs.Prelude.{ℕ, ◌≡◌, ◌≤◌, ◌-◌, List, [], ◌∷◌, Option, Some, None, IfSome, drop, length}
use Rattle.std.specs.Option.{option_map}
use Rattle.key_names.specs.Texts.ScriptFaults.{first_fault, front}
use Rattle.key_names.specs.Texts.ScriptGrammar.{Script, IsScript}
use Rattle.memchr.specs.Find.{OccursAt}
use Rattle.key_names.specs.Transcripts.SeenLine.{SeenLine}
use Rattle.tool_ends.specs.After.{HoldsText, compared_with}
use Rattle.tool_ends.specs.Pairs.{following}
use Rattle.tool_ends.specs.declared.following.After.{After}
use Rattle.tool_ends.specs.declared.intake.Intake.{Intake}
use Rattle.tool_ends.specs.declared.intake.Intake.TheVariants.{Front, Opened as IsOpen}
use Rattle.tool_ends.specs.declared.intake.Opened.{Opened}
use Rattle.tool_ends.specs.declared.intake.Opened.TheVariants.{Script as Found, Faulty}

-- `bytes` contain a whole line `end` after another line
abbrev pub HasEndLine : List ℕ → Type 0
HasEndLine bytes = (place : ℕ) × OccursAt bytes (10 ∷ 101 ∷ 110 ∷ 100 ∷ 10 ∷ []) place

-- the last `count` of `bytes`, and the four bytes before them. If the last `count` bytes completed a line `end`, this
-- part contains that line
abbrev pub last_part : ℕ → List ℕ → List ℕ
last_part count bytes = drop (length bytes - count - 4) bytes

-- the input begins with `script`, and the rest of the input is `text`
pub record IsFound (input : List ℕ) (script : Script) (text : After) : Type 0 where
  pub is_script : IsScript script (front input)
  pub within : length (front input) ≤ length input
  pub holds : HoldsText (following input) text

-- the result of reading the script at the front of the input is right
abbrev pub IsOpened : List ℕ → Opened → Type 0
IsOpened input (Found script text) = IsFound input script text
IsOpened input (Faulty fault) = first_fault (front input) ≡ Some fault

-- `input` was taken. All of it is kept while it has no line `end`; once it has one, its script is read
abbrev pub HasTaken : List ℕ → Intake → Type 0
HasTaken input (Front bytes) = (input ≡ bytes.items) × (HasEndLine input → ⊥)
HasTaken input (IsOpen opened) = HasEndLine input × IsOpened input opened

-- the script that was found, and the transcript with whose text the text after the script is compared; None if there is
-- no such transcript
abbrev pub made_of : Opened → Option (Script × List (List SeenLine))
made_of (Found script text) = option_map (λ made. (script, made)) (compared_with text)
made_of (Faulty fault) = None

abbrev pub made_in : Intake → Option (Script × List (List SeenLine))
made_in (Front bytes) = None
made_in (IsOpen opened) = made_of opened

-- `input` was taken. If a transcript was made for its script, the maker's guarantee `Made` holds for the script and
-- this transcript
pub record Fills (MayMake : Type 0) (Made : Script → List (List SeenLine) → Type 0) (input : List ℕ) (intake : Intake)
    : Type 0 where
  pub taken : HasTaken input intake
  pub may : MayMake
  pub made : IfSome (made_in intake) (λ both. Made both.0 both.1)
