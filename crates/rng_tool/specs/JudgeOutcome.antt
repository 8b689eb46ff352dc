-- The outcome of `check` and `replay`, whose input is a script and then a transcript.
use Rattle.std.specs.Prelude.{ℕ, ◌≡◌, ◌⊎◌, ◌≤◌, List, [], ◌∷◌, ◌++◌, Option, String, string_bytes, codes, length, map}
use Rattle.key_names.specs.Transcripts.IsTranscript.{Clause, FirstFails, clause_number}
use Rattle.key_names.specs.Texts.ScriptFaults.{front}
use Rattle.key_names.specs.Texts.ScriptGrammar.{Script, IsScript}
use Rattle.key_names.specs.Transcripts.SeenLine.{SeenLine}
use Rattle.key_names.specs.Texts.TranscriptGrammar.{IsTranscriptText}
use Rattle.transcript_check.specs.Judged.{IsSound}
use Rattle.serial_replay.specs.Replayed.{IsTheTranscript, StepsFail}
use Rattle.tool_ends.specs.Pairs.{IsNoTranscript, IsPair, TellsFault, following, most_input, no_line}
use Rattle.tool_ends.specs.Reads.{ReadsEnds}
use Rattle.tool_ends.specs.declared.status.Status.{Status}
use Rattle.tool_ends.specs.declared.status.Status.TheVariants.{Done, No, Usage, ReadFault, WriteFault, Refused, NoMemory}
use Rattle.rng_tool.specs.declared.judge.Judge.{Judge}
use Rattle.rng_tool.specs.declared.judge.Judge.TheVariants.{Check, Replay}

-- ---- the right outputs for a script and a transcript

abbrev pub yes_line : List ℕ
yes_line = codes "yes" ++ 10 ∷ []

-- the transcript `t` is lawful for the script, and the output is the line `yes`
pub record SaysYes (script : Script) (t : List (List SeenLine)) (output : List ℕ) : Type 0 where
  pub sound : IsSound script t
  pub line : output ≡ yes_line

-- the output is the text of the only lawful transcript that has the steps of `t`
pub record GivesBack (script : Script) (t : List (List SeenLine)) (output : List ℕ) : Type 0 where
  pub made : List (List SeenLine)
  pub is : IsTheTranscript script t made
  pub written : IsTranscriptText output made

abbrev pub Says : Judge → Script → List (List SeenLine) → List ℕ → Type 0
Says Check = SaysYes
Says Replay = GivesBack

-- the clause is the first that fails. `check` judges all clauses, and `replay` only the clauses on lines, marks, forms
-- and looks
abbrev pub Fails : Judge → Script → List (List SeenLine) → Clause → Type 0
Fails Check = FirstFails
Fails Replay = StepsFail

-- ---- the right outputs for an input

-- the input is a script and then a transcript, and the output is right for these two
pub record JudgeAnswer (judge : Judge) (input output : List ℕ) : Type 0 where
  pub script : Script
  pub lines : List (List SeenLine)
  pub pair : IsPair input script lines
  pub says : Says judge script lines output

-- either the number is 1, and `text` is not the text of a transcript; or `text` is the text of a transcript, and the
-- number is the number of the first clause that fails
abbrev pub IsClause : Judge → Script → List ℕ → ℕ → Type 0
IsClause judge script text number =
    (number ≡ 1) × IsNoTranscript text
    ⊎ (lines : List (List SeenLine)) × IsTranscriptText text lines
    × (clause : Clause) × Fails judge script lines clause × (number ≡ clause_number clause)

pub record JudgeVerdict (judge : Judge) (input output : List ℕ) : Type 0 where
  pub short : length input ≤ most_input
  pub script : Script
  pub is_script : IsScript script (front input)
  pub number : ℕ
  pub clause : IsClause judge script (following input) number
  pub line : output ≡ no_line number

-- the right status and output for a script and a transcript `t`
abbrev pub SaidOf : Judge → Script → List (List SeenLine) → Status → List ℕ → Type 0
SaidOf judge script t Done output = Says judge script t output
SaidOf judge script t No output = (clause : Clause) × Fails judge script t clause × (output ≡ no_line (clause_number clause))
SaidOf judge script t Refused output = ⊥
SaidOf judge script t Usage output = ⊥
SaidOf judge script t ReadFault output = ⊥
SaidOf judge script t WriteFault output = ⊥
SaidOf judge script t NoMemory output = ⊥

-- the right status and output for an input
abbrev pub JudgeCalls : Judge → List ℕ → Status → List ℕ → Type 0
JudgeCalls judge input Done output = JudgeAnswer judge input output
JudgeCalls judge input No output = JudgeVerdict judge input output
JudgeCalls judge input Refused output = TellsFault input output
JudgeCalls judge input Usage output = ⊥
JudgeCalls judge input ReadFault output = ⊥
JudgeCalls judge input WriteFault output = ⊥
JudgeCalls judge input NoMemory output = ⊥

-- how the command ends: its status, the bytes left in the source before and after it, and the content of the sink
-- before and after it
abbrev pub JudgeEnds : Judge → Status → Option (List ℕ) → Option (List ℕ) → Option (List ℕ) → Option (List ℕ) → Type 0
JudgeEnds judge = ReadsEnds most_input (JudgeCalls judge)

-- ---- the words that name the commands

abbrev pub word_of : Judge → List ℕ
word_of Check = codes "check"
word_of Replay = codes "replay"

abbrev pub IsJudge : {A : Type 0} → List (String A) → Judge → Type 0
IsJudge words judge = map string_bytes words ≡ word_of judge ∷ []
