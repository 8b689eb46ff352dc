-- Answers and data, made from a transcript's steps.
use Rattle.std.specs.Prelude.{ℕ, ◌≡◌, ◌<◌, ◌↔◌, ⊤, IsTrue, List, length, map}
use Rattle.std.specs.List.{AllByRecursion}
use Rattle.std.specs.Global.{Vec}
use Rattle.key_names.specs.Lanes.Book.{Lists, lists_of, list_at}
use Rattle.key_names.specs.Callers.Calls.{Setting, Call}
use Rattle.key_names.specs.Callers.Meaning.{CallMeaning}
use Rattle.key_names.specs.Texts.TranscriptGrammar.{StepFits}
use Rattle.key_names.specs.Texts.ScriptGrammar.{Script}
use Rattle.key_names.specs.Transcripts.SeenLine.{SeenLine}
use Rattle.key_names.specs.Transcripts.IsTranscript.{MadeBook, SeenConforms, FirstFails, EachCaller}
use Rattle.key_names.specs.Transcripts.IsTranscript.{EachLine, script_calls, HasLines, CallerMeans, start_setting}
use Rattle.judge_lines.specs.Settings.{AreSettings}
use Rattle.judge_lines.specs.Clauses.{clause_of}
use Rattle.judge_lines.specs.declared.clause.Clause.{Clause}
use Rattle.judge_lines.specs.declared.clause.Clause.TheVariants.{Lines, Marks, Forms}
use Rattle.judge_log.specs.declared.said.MadeLine.{MadeLine}
use Rattle.judge_log.specs.Said.{NotedAt, SaysIt, IsSaid}
use Rattle.serial_replay.specs.declared.remake.Made.{Made}
use Rattle.serial_replay.specs.declared.remake.Remade.{Remade}
use Rattle.serial_replay.specs.declared.remake.Remade.TheVariants.{Made as MadeAll, No}

-- the clause is one of those that are judged before any answer: lines, marks and forms
abbrev pub IsEarly : Clause → Type 0
IsEarly Lines = ⊤
IsEarly Marks = ⊤
IsEarly Forms = ⊤
IsEarly _ = ⊥

-- the numbers in all steps are in the ranges of the transcript grammar
abbrev pub StepsFit : List (List SeenLine) → Type 0
StepsFit t = AllByRecursion (AllByRecursion (λ line. AllByRecursion StepFits line.steps)) t

-- `callers` has the calls of each caller; `settings` has, for each caller, the setting before each of these calls
pub record CallersConform (script : Script) (t : List (List SeenLine)) (callers : List (List Call))
    (settings : List (Vec Setting)) : Type 0 where
  pub lines : HasLines script t
  pub fit : StepsFit t
  pub calls : callers ≡ script_calls script t
  pub found : AreSettings callers settings

-- if the first call begins with the setting `set`, the calls have some lawful meanings in `lists`
pub record MeansSome (lists : Lists) (set : Setting) (calls : List Call) : Type 0 where
  pub ms : List CallMeaning
  pub means : CallerMeans lists set calls ms

-- in `lists`, the calls of each caller have some lawful meanings
abbrev pub AllMeanSome : Lists → List (List Call) → Type 0
AllMeanSome lists callers =
    (c : ℕ) → c < length callers → MeansSome lists (start_setting callers c) (list_at callers c)

abbrev pub said_lists : {Noted : Type 0} → List (Vec Noted) → List (List Noted)
said_lists callers = map (λ notes. notes.items) callers

-- the notes of each caller's lines
abbrev pub made_by : {Noted : Type 0} → Made Noted → List (List Noted)
made_by m = said_lists m.callers.items

module _ {Noted : Type 0} (IsNoted : ℕ → ℕ → MadeLine → Noted → Type 0) where
  -- at the event's number, the notes of caller `c` have a note of this answer and these data
  abbrev pub said_of_caller : List (List Noted) → ℕ → ℕ → MadeLine → Type 0
  said_of_caller notes c = NotedAt (IsNoted c) (list_at notes c)

  pub record AllSaid (lists : Lists) (callers : List (List Call)) (notes : List (Vec Noted)) : Type 0 where
    pub long : length notes ≡ length callers
    pub each : (c : ℕ) → c < length callers →
        IsSaid lists (start_setting callers c) (list_at callers c) (said_of_caller (said_lists notes) c)

  -- the steps of `t` make a book. At each line's event number, `m` has a note of the line's answer and data.
  -- `looks_conform` is true exactly if the looks are lawful
  pub record AllMade (script : Script) (t : List (List SeenLine)) (m : Made Noted) : Type 0 where
    pub made : MadeBook script t
    pub long : length (made_by m) ≡ length t
    pub says : EachCaller (λ c calls ms. EachLine (SaysIt (said_of_caller (made_by m) c)) calls ms) 0 (script_calls script t)
        made.meanings
    pub looks : IsTrue m.looks_conform ↔ SeenConforms script t (lists_of made.book)

-- the clause is the first that fails, and is judged before the answers
pub record FailsEarly (script : Script) (t : List (List SeenLine)) (clause : Clause) : Type 0 where
  pub early : IsEarly clause
  pub fails : FirstFails script t (clause_of clause)

abbrev pub IsRemade : {Noted : Type 0} → (ℕ → ℕ → MadeLine → Noted → Type 0) → Script → List (List SeenLine) →
    Remade Noted → Type 0
IsRemade IsNoted script t (MadeAll m) = AllMade IsNoted script t m
IsRemade IsNoted script t (No clause) = FailsEarly script t clause
