-- The answers of the C functions: the number of each, and when it is true.
use Rattle.std.specs.Prelude.{◌≡◌, ◌^◌, ◌<◌, ◌++◌, ⊤, ℕ, Bool, true, false, List, length, drop}
use Rattle.key_names.specs.Texts.ScriptGrammar.{IsScript, Script}
use Rattle.key_names.specs.Texts.TranscriptGrammar.{IsTranscriptText, transcript_text}
use Rattle.key_names.specs.Transcripts.IsTranscript.{FirstFails, clause_number, Clause}
use Rattle.key_names.specs.Transcripts.SeenLine.{SeenLine}
use Rattle.judge_lines.specs.Clauses.{clause_of}
use Rattle.serial_replay.specs.Replayed.{IsTheTranscript, StepsFail}
use Rattle.transcript_check.specs.Judged.{IsSound}
use Rattle.fenloth_c.specs.declared.answer.TextAnswer.{TextAnswer}
use Rattle.fenloth_c.specs.declared.answer.TextAnswer.TheVariants.{Yes, NoTranscript, Fails, NoScript, NoMemory, TooLong, NoRoom}

-- the number that a C function returns for each answer
abbrev pub code_of : TextAnswer → ℕ
code_of Yes = 0
code_of NoTranscript = 1
code_of (Fails clause) = clause_number (clause_of clause)
code_of NoScript = 8
code_of NoMemory = 9
code_of TooLong = 10
code_of NoRoom = 11

abbrev pub IsScriptText : List ℕ → Type 0
IsScriptText script = (s : Script) × IsScript s script

-- `script` is the text of a script, `text` is the text of a transcript, and `Holds` is true of the two
abbrev pub AreTexts : List ℕ → List ℕ → (Script → List (List SeenLine) → Type 0) → Type 0
AreTexts script text Holds =
    (s : Script) × (t : List (List SeenLine)) × IsScript s script × IsTranscriptText text t × Holds s t

-- The given answer is true of the texts `script` and `text`; if both are faulty, the answer is NoScript. The three
-- relations define what Yes, a clause and NoRoom mean for a script and a transcript.
abbrev pub IsTrueOf : List ℕ → List ℕ → (Script → List (List SeenLine) → Type 0)
    → (Script → List (List SeenLine) → Clause → Type 0) → (Script → List (List SeenLine) → Type 0) → TextAnswer → Type 0
IsTrueOf script text IsYes Fail IsFull Yes = AreTexts script text IsYes
IsTrueOf script text IsYes Fail IsFull NoTranscript =
    IsScriptText script × ((t : List (List SeenLine)) → IsTranscriptText text t → ⊥)
IsTrueOf script text IsYes Fail IsFull (Fails clause) = AreTexts script text (λ s t. Fail s t (clause_of clause))
IsTrueOf script text IsYes Fail IsFull NoScript = (s : Script) → IsScript s script → ⊥
IsTrueOf script text IsYes Fail IsFull NoMemory = ⊤
IsTrueOf script text IsYes Fail IsFull TooLong = IsScriptText script × (2 ^ 31 < length text)
IsTrueOf script text IsYes Fail IsFull NoRoom = AreTexts script text IsFull

-- the check's answer `answer` is true. Yes: the transcript is lawful. A clause: it is the first that fails
abbrev pub IsChecked : List ℕ → List ℕ → TextAnswer → Type 0
IsChecked script text answer = IsTrueOf script text IsSound FirstFails (λ s t. ⊥) answer

-- the buffer begins with the text of the transcript that was made, `made` is the length of this text, and the other
-- bytes of the buffer are unchanged
pub record IsMade (old new : List ℕ) (made : ℕ) (s : Script) (t : List (List SeenLine)) : Type 0 where
  pub remade : List (List SeenLine)
  pub is_the : IsTheTranscript s t remade
  pub buffer : new ≡ transcript_text remade ++ drop made old
  pub made_is : made ≡ length (transcript_text remade)

-- the text of the transcript that was made is longer than the buffer, and `made` is the length of this text
pub record IsLonger (old : List ℕ) (made : ℕ) (s : Script) (t : List (List SeenLine)) : Type 0 where
  pub remade : List (List SeenLine)
  pub is_the : IsTheTranscript s t remade
  pub made_is : made ≡ length (transcript_text remade)
  pub longer : length old < made

-- the answer of the replay is true. Yes and NoRoom: the only lawful transcript with these steps is in the buffer, or is
-- too long for the buffer. A clause: of the clauses on lines, marks, forms and looks, it is the first that fails
abbrev pub IsRemade : List ℕ → List ℕ → List ℕ → List ℕ → ℕ → TextAnswer → Type 0
IsRemade script text old new made answer =
    IsTrueOf script text (IsMade old new made) StepsFail (IsLonger old made) answer

-- if the flag is true, the buffer, `old` before and `new` now, begins with `text`. If the flag is false, `text` is
-- longer than the buffer, and the buffer is unchanged
abbrev pub IsPut : Bool → List ℕ → List ℕ → List ℕ → Type 0
IsPut true text old new = new ≡ text ++ drop (length text) old
IsPut false text old new = (new ≡ old) × (length old < length text)

-- no script was read from `script`, and the given answer is a true reason for that
abbrev pub IsNoScript : List ℕ → TextAnswer → Type 0
IsNoScript script NoScript = (s : Script) → IsScript s script → ⊥
IsNoScript script NoMemory = ⊤
IsNoScript script Yes = ⊥
IsNoScript script NoTranscript = ⊥
IsNoScript script (Fails clause) = ⊥
IsNoScript script TooLong = ⊥
IsNoScript script NoRoom = ⊥

-- no transcript was read from `text`, and the given answer is a true reason for that
abbrev pub IsNoTranscript : List ℕ → TextAnswer → Type 0
IsNoTranscript text NoTranscript = (t : List (List SeenLine)) → IsTranscriptText text t → ⊥
IsNoTranscript text NoMemory = ⊤
IsNoTranscript text TooLong = 2 ^ 31 < length text
IsNoTranscript text Yes = ⊥
IsNoTranscript text (Fails clause) = ⊥
IsNoTranscript text NoScript = ⊥
IsNoTranscript text NoRoom = ⊥
