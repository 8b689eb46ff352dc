-- A fact about the calls of a caller follows from one rule for each kind of event (`EachStep`).
use Rattle.std.proofs.Common.{ℕ, Bool, true, false, List, [], ◌∷◌, ◌++◌}
use Rattle.std.specs.Prelude.{if◌then◌else◌}
use Rattle.key_names.specs.declared.events.Event.{Event}
use Rattle.key_names.specs.declared.events.Event.TheVariants.{Vread, Inside}
use Rattle.key_names.specs.declared.events.InsideAct.{InsideAct}
use Rattle.key_names.specs.declared.point.Point.{Point}
use Rattle.key_names.specs.Callers.Calls.{Call, alone, vread_call, unbound, ending, BoundAct, has_vread, calls_from}
use Rattle.key_names.specs.Transcripts.SeenLine.{SeenLine}

-- a fact about the waiting acts, the events and lines that are left, and the calls that these acts, events and lines
-- make
abbrev pub OfCalls : Type 1
OfCalls = List BoundAct → List Event → List SeenLine → List Call → Type 0

abbrev pub act_of : Point → InsideAct → SeenLine → BoundAct
act_of point act line = record { point = point; act = act; line = line }

pub record EachStep (Q : OfCalls) : Type 0 where
  pub over : (waiting : List BoundAct) → Q waiting [] [] []
  pub ends : (waiting : List BoundAct) (line : SeenLine) (lines : List SeenLine) →
      Q waiting [] (line ∷ lines) (ending line ∷ [])
  pub cut : (waiting : List BoundAct) (event : Event) (es : List Event) → Q waiting (event ∷ es) [] []
  pub reads : (waiting : List BoundAct) (n flags : ℕ) (es : List Event) (line : SeenLine) (lines : List SeenLine)
      (calls : List Call) →
      Q [] es lines calls → Q waiting (Vread n flags ∷ es) (line ∷ lines) (vread_call n flags line waiting ∷ calls)
  pub binds : (waiting : List BoundAct) (point : Point) (act : InsideAct) (es : List Event) (line : SeenLine)
      (lines : List SeenLine) (calls : List Call) → Q (waiting ++ act_of point act line ∷ []) es lines calls →
      Q waiting (Inside point act ∷ es) (line ∷ lines) calls
  pub leaves : (waiting : List BoundAct) (point : Point) (act : InsideAct) (es : List Event) (line : SeenLine)
      (lines : List SeenLine) (calls : List Call) → Q waiting es lines calls →
      Q waiting (Inside point act ∷ es) (line ∷ lines) (unbound (act_of point act line) ∷ calls)
  pub goes : (waiting : List BoundAct) (event : Event) (es : List Event) (line : SeenLine) (lines : List SeenLine)
      (calls : List Call) → Q waiting es lines calls → Q waiting (event ∷ es) (line ∷ lines) (alone event line ∷ calls)

inside : (Q : OfCalls) → EachStep Q → (waiting : List BoundAct) (point : Point) (act : InsideAct) (es : List Event)
    (line : SeenLine) (lines : List SeenLine) (b : Bool) (later calls : List Call) →
    Q (waiting ++ act_of point act line ∷ []) es lines later → Q waiting es lines calls →
    Q waiting (Inside point act ∷ es) (line ∷ lines) (if b then later else unbound (act_of point act line) ∷ calls)
inside Q step waiting point act es line lines true later calls bound left =
    step.binds waiting point act es line lines later bound
inside Q step waiting point act es line lines false later calls bound left =
    step.leaves waiting point act es line lines calls left

pub of_calls : (Q : OfCalls) → EachStep Q → (waiting : List BoundAct) (events : List Event) (lines : List SeenLine) →
    Q waiting events lines (calls_from waiting events lines)
of_calls Q step waiting [] [] = step.over waiting
of_calls Q step waiting [] (line ∷ lines) = step.ends waiting line lines
of_calls Q step waiting (event ∷ es) [] = step.cut waiting event es
of_calls Q step waiting (Vread n flags ∷ es) (line ∷ lines) =
    step.reads waiting n flags es line lines _ (of_calls Q step [] es lines)
of_calls Q step waiting (Inside point act ∷ es) (line ∷ lines) =
    inside Q step waiting point act es line lines (has_vread es) _ _
    (of_calls Q step (waiting ++ act_of point act line ∷ []) es lines) (of_calls Q step waiting es lines)
of_calls Q step waiting (event ∷ es) (line ∷ lines) =
    step.goes waiting event es line lines _ (of_calls Q step waiting es lines)
