-- The effect of a read out of a caller's vgetrandom state with acts inside.
use Rattle.std.specs.Prelude.{◌≡◌, ℕ, ◌≤◌, ◌^◌, false, List, [], ◌∷◌, ◌++◌, map, if◌then◌else◌}
use Rattle.std.specs.List.{AllByRecursion}
use Rattle.key_names.specs.declared.entries.VEntry.{VEntry}
use Rattle.key_names.specs.declared.events.Answer.{Answer}
use Rattle.key_names.specs.declared.events.Answer.TheVariants.{Unused}
use Rattle.key_names.specs.declared.events.Word.TheVariants.{Inside}
use Rattle.key_names.specs.Lanes.Book.{Lists}
use Rattle.key_names.specs.Callers.Calls.{BoundAct}
use Rattle.key_names.specs.Callers.Effects.{Effect, effects_of}
use Rattle.key_names.specs.Callers.Meaning.{CallerState, CallMeaning, LineMeaning, VreadMeans, current_state, with_state}
use Rattle.key_names.specs.Callers.Meaning.{unused_line}
use Rattle.key_names.specs.Transcripts.SeenLine.{Shown, SeenLine, bytes_or_none, no_data}
use Rattle.key_names.specs.Texts.TranscriptGrammar.{StepFits}
use Rattle.key_names.specs.Kernel.VgetrandomState.{VgetrandomState}
use Rattle.lane_table.specs.declared.view.Visit.{Visit}
use Rattle.lane_table.specs.BookLists.{StateLists, book_lists}
use Rattle.lane_table.specs.BookLaws.{Continues}
use Rattle.lane_table.specs.Advances.{MadeStep, step_of}
use Rattle.rng_core.specs.declared.vdso.acts.Bound.{Bound}
use Rattle.rng_core.specs.declared.setting.Setting.{Setting}
use Rattle.rng_core.specs.Traces.{Moment}
use Rattle.rng_core.specs.Makes.{setting_of, result_answer, given}
use Rattle.rng_core.specs.Acts.{Ask, ActOutcome, wants, done_line}

-- an act that has not run yet, and reads at most 2^20 bytes
pub record IsWaitingAct (b : Bound) : Type 0 where
  pub short : wants b.act ≤ 2 ^ 20
  pub idle : b.done ≡ false
  pub empty : b.trace ≡ []

-- the line of an act; if the act did not run, the line's answer is `unused`
abbrev pub act_line : Setting → Ask → ActOutcome → SeenLine
act_line set a z = record {
  caller = set.caller;
  event = a.event;
  word = Inside;
  answer = if z.done then result_answer z.answer else Unused;
  steps = z.steps;
  shown = if z.done then bytes_or_none (given z.answer z.bytes) else no_data;
}

abbrev pub bound_act : Setting → Ask → ActOutcome → BoundAct
bound_act set a z = record { point = a.point; act = a.act; line = act_line set a z }

abbrev pub bound_acts : Setting → List Ask → List ActOutcome → List BoundAct
bound_acts set [] zs = []
bound_acts set (a ∷ asks) [] = []
bound_acts set (a ∷ asks) (z ∷ zs) = bound_act set a z ∷ bound_acts set asks zs

-- the meaning of an act's line
abbrev pub outcome_line : Lists → ActOutcome → LineMeaning
outcome_line lists z = if z.done then done_line (effects_of lists z.steps) z.answer z.bytes else unused_line

-- the meaning of a read, from the effects of the read's own steps and from the outcomes of its acts
abbrev pub inside_meaning : Lists → List Effect → Answer → Shown → List VEntry → List ActOutcome → CallerState →
    VgetrandomState → CallMeaning
inside_meaning lists effects answer shown entries outcomes before t = record {
  own = record { effects = effects; answer = answer; shown = shown };
  acts = map (outcome_line lists) outcomes;
  entries = entries;
  before = before;
  after = with_state before t;
}

-- from `l` to `m` the caller read `n` bytes with these flags out of the state `s`, which became `t`. The trace has the
-- read's own steps, and the outcomes have the acts' steps
pub record InsideMakes (n flags : ℕ) (s t : VgetrandomState) (answer : Answer) (shown : Shown) (set : Setting)
    (l m : Moment) (asks : List Ask) (outcomes : List ActOutcome) : Type 0 where
  pub entries : List VEntry
  pub made_steps : List MadeStep
  pub trace : m.steps ≡ l.steps ++ map step_of made_steps
  pub fits : AllByRecursion StepFits (map step_of made_steps)
  pub acts_fit : AllByRecursion (λ z. AllByRecursion StepFits z.steps) outcomes
  pub conforms : (lanes : ℕ) (visits : ℕ → List Visit) (callers : StateLists) → Continues lanes m.view visits →
      (before : CallerState) → before.setting ≡ setting_of set → current_state before ≡ s →
      VreadMeans n flags (bound_acts set asks outcomes)
      (inside_meaning (book_lists lanes visits callers)
      (effects_of (book_lists lanes visits callers) (map step_of made_steps))
      answer shown entries outcomes before t)
