-- The meaning of a check's verdict. `Yes` means that the transcript is lawful, and more: see `IsSound`.
use Rattle.std.specs.Prelude.{⊤, List}
use Rattle.std.specs.List.{AllByRecursion}
use Rattle.key_names.specs.Lanes.Book.{Book, lists_of}
use Rattle.key_names.specs.Callers.Effects.{effects_of}
use Rattle.key_names.specs.Callers.History.{caller_orders}
use Rattle.key_names.specs.Transcripts.IsTranscript.{IsTranscriptBy, FirstFails, script_calls}
use Rattle.key_names.specs.Callers.Meaning.{CallMeaning}
use Rattle.key_names.specs.Transcripts.PrintedBytes.{PrintsNamed}
use Rattle.key_names.specs.Texts.ScriptGrammar.{Script}
use Rattle.key_names.specs.Transcripts.SeenLine.{SeenLine}
use Rattle.key_names.specs.Keys.Uses.{IsDisjoint}
use Rattle.key_names.specs.Callers.VreadSteps.{NeverFall, looks_of}
use Rattle.judge_lines.specs.Clauses.{clause_of}
use Rattle.serial_replay.specs.Found.{BasisConforms}
use Rattle.transcript_check.specs.declared.check.Judged.{Judged}
use Rattle.transcript_check.specs.declared.check.Judged.TheVariants.{Lawful, Unlawful}
use Rattle.transcript_check.specs.declared.check.Verdict.{Verdict}
use Rattle.transcript_check.specs.declared.check.Verdict.TheVariants.{Yes, No}

-- the transcript is lawful with `book`, and `book` uses no byte of a key's keystream twice. The lines show bytes of
-- named keys, and each such byte at most once. In the order of each caller's steps, no look finds a lower generation
-- than an earlier look
pub record IsSound (script : Script) (t : List (List SeenLine)) : Type 0 where
  pub book : Book
  pub meanings : List (List CallMeaning)
  pub lawful : IsTranscriptBy script t book meanings
  pub disjoint : IsDisjoint (lists_of book)
  pub printed : PrintsNamed script t book meanings
  pub rising : AllByRecursion (λ order. NeverFall (looks_of (effects_of (lists_of book) order)))
      (caller_orders (script_calls script t))

abbrev pub IsJudged : Script → List (List SeenLine) → Verdict → Type 0
IsJudged script t Yes = IsSound script t
IsJudged script t (No clause) = FirstFails script t (clause_of clause)

abbrev pub verdict_of : Judged → Verdict
verdict_of (Lawful basis) = Yes
verdict_of (Unlawful clause) = No clause

-- if the verdict is that the transcript is lawful, `basis` has the data kept about lists that match the transcript's
-- lines
abbrev pub HasLists : Script → List (List SeenLine) → Judged → Type 0
HasLists script t (Lawful basis) = BasisConforms script t basis
HasLists script t (Unlawful clause) = ⊤
