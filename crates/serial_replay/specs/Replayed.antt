-- The result of a replay: the one lawful transcript with the given steps, or the clause that stops the replay.
use Rattle.std.specs.Prelude.{◌≡◌, List}
use Rattle.key_names.specs.Lanes.Book.{lists_of}
use Rattle.key_names.specs.Texts.ScriptGrammar.{Script}
use Rattle.key_names.specs.Transcripts.SeenLine.{SeenLine}
use Rattle.key_names.specs.Transcripts.SameSteps.{SameSteps}
use Rattle.key_names.specs.Transcripts.IsTranscript.{IsTranscript, MadeBook, SeenConforms, FirstFails, Clause}
use Rattle.key_names.specs.Transcripts.IsTranscript.{lines_clause, marks_clause, forms_clause, answers_clause, data_clause}
use Rattle.key_names.specs.Transcripts.IsTranscript.{looks_clause}
use Rattle.judge_lines.specs.Clauses.{clause_of}
use Rattle.serial_replay.specs.declared.replay.Replayed.{Replayed}
use Rattle.serial_replay.specs.declared.replay.Replayed.TheVariants.{Made, No}

-- the clause is the first that fails among those on lines, marks, forms and looks
abbrev pub StepsFail : Script → List (List SeenLine) → Clause → Type 0
StepsFail script t looks_clause = (made : MadeBook script t) × (¬ SeenConforms script t (lists_of made.book))
StepsFail script t answers_clause = ⊥
StepsFail script t data_clause = ⊥
StepsFail script t lines_clause = FirstFails script t lines_clause
StepsFail script t marks_clause = FirstFails script t marks_clause
StepsFail script t forms_clause = FirstFails script t forms_clause

-- `u` is a lawful transcript with the steps of `t`, and no other lawful transcript has these steps
pub record IsTheTranscript (script : Script) (t u : List (List SeenLine)) : Type 0 where
  pub same : SameSteps t u
  pub lawful : IsTranscript script u
  pub only : (v : List (List SeenLine)) → SameSteps t v → IsTranscript script v → v ≡ u

abbrev pub IsReplay : Script → List (List SeenLine) → Replayed → Type 0
IsReplay script t (Made u) = IsTheTranscript script t u
IsReplay script t (No clause) = StepsFail script t (clause_of clause)
