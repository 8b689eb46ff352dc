-- The effects of one of a caller's calls, and the effects of several calls one after another.
use Rattle.std.specs.Prelude.{◌≡◌, ℕ, List, [], ◌∷◌, ◌++◌, map}
use Rattle.std.specs.List.{AllByRecursion}
use Rattle.key_names.specs.Lanes.Book.{Lists}
use Rattle.key_names.specs.Callers.Calls.{Call, alone, vread_call, unbound, ending}
use Rattle.key_names.specs.Callers.Effects.{effects_of}
use Rattle.key_names.specs.Kernel.FastPool.{FastPool}
use Rattle.caller_run.specs.Items.{call_items, calls_items}
use Rattle.key_names.specs.Transcripts.IsTranscript.{EachOfCall, EachLine, CallsMean}
use Rattle.key_names.specs.Callers.Meaning.{CallerState, CallMeaning, Means}
use Rattle.key_names.specs.Transcripts.SeenLine.{SeenLine}
use Rattle.key_names.specs.Transcripts.StatesReplayed.{caller_end}
use Rattle.lane_table.specs.declared.view.Visit.{Visit}
use Rattle.lane_table.specs.declared.view.View.{View}
use Rattle.lane_table.specs.BookLists.{StateLists, book_lists}
use Rattle.lane_table.specs.BookLaws.{Continues}
use Rattle.caller_run.specs.NumberedSteps.{NumberedStep, items_of}
use Rattle.caller_run.specs.Ran.{RanBy}
use Rattle.key_names.specs.Callers.LineSamples.{SamplesConform}
use Rattle.rng_core.specs.SampleEffects.{fast_in}

-- the lines of a call in the order of the script: first the lines of the acts inside the call, then the call's own line
abbrev pub lines_in_order : Call → List SeenLine
lines_in_order (alone event line) = line ∷ []
lines_in_order (vread_call len flags line acts) = map (λ bound. bound.line) acts ++ line ∷ []
lines_in_order (unbound bound) = bound.line ∷ []
lines_in_order (ending line) = line ∷ []

-- a meaning of `call` that leads the caller from the state `s` to `t`, and agrees with the call's lines
pub record CallMeant (lists : Lists) (s : CallerState) (call : Call) (t : CallerState) : Type 0 where
  pub meaning : CallMeaning
  pub before : meaning.before ≡ s
  pub means : Means call meaning
  pub after : meaning.after ≡ t
  pub effects : EachOfCall (λ line m. effects_of lists line.steps ≡ m.effects) call meaning
  pub answers : EachOfCall (λ line m. line.answer ≡ m.answer) call meaning
  pub shown : EachOfCall (λ line m. line.shown ≡ m.shown) call meaning

-- the samples of each line of a call match their definition
abbrev pub CallSamples : (ℕ → ℕ → FastPool) → Lists → Call → Type 0
CallSamples fast lists call = AllByRecursion (λ line. SamplesConform fast (effects_of lists line.steps)) (lines_in_order call)

-- `call` took the pass's view from v to w, and the caller's state from s to t. The call's meaning holds for all final
-- lists that extend the lists seen by the pass
pub record CallDoneBy (caller splits : ℕ) (v w : View) (s t : CallerState) (call : Call) : Type 0 where
  pub numbered_steps : List NumberedStep
  pub ran : RanBy caller splits v w numbered_steps
  pub order : items_of numbered_steps ≡ call_items call
  pub meant : (lanes : ℕ) (visits : ℕ → List Visit) (callers : StateLists) → Continues lanes w visits →
      CallMeant (book_lists lanes visits callers) s call t
  pub samples : (lanes : ℕ) (visits : ℕ → List Visit) (callers : StateLists) → Continues lanes w visits →
      CallSamples (fast_in visits) (book_lists lanes visits callers) call

-- `CallDoneBy` for a call that forks no caller, so that the pass is not split
abbrev pub CallDone : ℕ → View → View → CallerState → CallerState → Call → Type 0
CallDone caller v w s t call = CallDoneBy caller 0 v w s t call

-- a meaning for each of `calls`. One after another, these meanings lead the caller from the state `s` to `t`, and each
-- agrees with the lines of its call
pub record CallsMeant (lists : Lists) (s : CallerState) (calls : List Call) (t : CallerState) : Type 0 where
  pub meanings : List CallMeaning
  pub means : CallsMean s calls meanings
  pub reaches : caller_end s meanings ≡ t
  pub effects : EachLine (λ line m. effects_of lists line.steps ≡ m.effects) calls meanings
  pub answers : EachLine (λ line m. line.answer ≡ m.answer) calls meanings
  pub shown : EachLine (λ line m. line.shown ≡ m.shown) calls meanings

-- the invariant of a loop over a caller's calls: `calls` took the view from v to w, and the pass was split `splits`
-- times
pub record CallsDone (caller splits : ℕ) (v w : View) (s t : CallerState) (calls : List Call) : Type 0 where
  pub numbered_steps : List NumberedStep
  pub ran : RanBy caller splits v w numbered_steps
  pub order : items_of numbered_steps ≡ calls_items calls
  pub meant : (lanes : ℕ) (visits : ℕ → List Visit) (callers : StateLists) → Continues lanes w visits →
      CallsMeant (book_lists lanes visits callers) s calls t
  pub samples : (lanes : ℕ) (visits : ℕ → List Visit) (callers : StateLists) → Continues lanes w visits →
      AllByRecursion (CallSamples (fast_in visits) (book_lists lanes visits callers)) calls
