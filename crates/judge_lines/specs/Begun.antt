-- The result of judging a transcript's lines and marks.
use Rattle.std.specs.Prelude.{◌≡◌, List, map, IsPermutation}
use Rattle.key_names.specs.Texts.ScriptGrammar.{Script}
use Rattle.key_names.specs.Transcripts.SeenLine.{SeenLine}
use Rattle.key_names.specs.Transcripts.IsTranscript.{HasLines, MarksConform, script_calls, all_marks, FirstFails}
use Rattle.key_names.specs.Transcripts.IsTranscript.{lines_clause, marks_clause}
use Rattle.judge_lines.specs.declared.begin.TranscriptParts.{TranscriptParts}
use Rattle.judge_lines.specs.declared.clause.Clause.{Clause}
use Rattle.judge_lines.specs.declared.clause.Clause.TheVariants.{Lines, Marks}
use Rattle.judge_lines.specs.declared.begin.Begun.{Begun}
use Rattle.judge_lines.specs.declared.begin.Begun.TheVariants.{Conforms, No}
use Rattle.judge_lines.specs.Called.{seen_calls}
use Rattle.judge_lines.specs.Marks.{seen_mark, IsSortedByLane}
use Rattle.judge_lines.specs.Orders.{all_forks}

-- the clauses on lines and marks hold, and `parts` has the transcript's calls, marks and forks
pub record PartsConform (script : Script) (t : List (List SeenLine)) (parts : TranscriptParts) : Type 0 where
  pub lines : HasLines script t
  pub marks_conform : MarksConform script t
  pub calls : seen_calls parts.calls.items ≡ script_calls script t
  pub all_marks : IsPermutation (all_marks t) (map seen_mark parts.marks.items)
  pub sorted : IsSortedByLane parts.marks.items
  pub forks : parts.forks.items ≡ all_forks 0 (script_calls script t)

-- the clause is the first clause that fails, and is either the clause on lines or the clause on marks
abbrev pub IsEarlyFault : Script → List (List SeenLine) → Clause → Type 0
IsEarlyFault script t Lines = FirstFails script t lines_clause
IsEarlyFault script t Marks = FirstFails script t marks_clause
IsEarlyFault script t _ = ⊥

abbrev pub IsBegun : Script → List (List SeenLine) → Begun → Type 0
IsBegun script t (Conforms parts) = PartsConform script t parts
IsBegun script t (No clause) = IsEarlyFault script t clause
