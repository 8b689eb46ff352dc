-- The acts that wait for a caller's next vread. Each act's line shows the act as not done, until that vread replaces
-- the line.
use Rattle.std.specs.Prelude.{◌≡◌, ◌<◌, false, ⊤, List, [], ◌∷◌, ◌++◌, length, slice_set}
use Rattle.std.specs.List.{AllByRecursion}
use Rattle.key_names.specs.declared.events.Event.{Event}
use Rattle.key_names.specs.declared.events.Event.TheVariants.{Vread, Inside}
use Rattle.key_names.specs.Callers.Calls.{Call, BoundAct, has_vread, calls_from, calls_of}
use Rattle.key_names.specs.Transcripts.SeenLine.{SeenLine}
use Rattle.rng_core.specs.Acts.{Ask, ActOutcome}
use Rattle.rng_core.specs.InsideMakes.{act_line}
use Rattle.rng_core.specs.declared.setting.Setting.{Setting}

-- a caller's lines, after the line of each request was replaced by the line of the request's act
abbrev pub emitted_anew : List SeenLine → List Ask → List SeenLine → List SeenLine
emitted_anew lines [] acts = lines
emitted_anew lines (a ∷ asks) [] = lines
emitted_anew lines (a ∷ asks) (line ∷ acts) = emitted_anew (slice_set lines a.event line) asks acts

-- the lines of acts that have these outcomes
abbrev pub act_lines : Setting → List Ask → List ActOutcome → List SeenLine
act_lines set [] zs = []
act_lines set (a ∷ asks) [] = []
act_lines set (a ∷ asks) (z ∷ zs) = act_line set a z ∷ act_lines set asks zs

abbrev pub bound_by : Ask → SeenLine → BoundAct
bound_by a line = record { point = a.point; act = a.act; line = line }

-- acts, each with its line
abbrev pub all_bound : List Ask → List SeenLine → List BoundAct
all_bound [] lines = []
all_bound (a ∷ asks) [] = []
all_bound (a ∷ asks) (line ∷ lines) = bound_by a line ∷ all_bound asks lines

-- an event that is a call by itself
abbrev pub IsAlone : Event → Type 0
IsAlone (Vread len flags) = ⊥
IsAlone (Inside point act) = ⊥
IsAlone _ = ⊤

-- the invariant of a loop over the events; `rest` has the events still to come. The calls made so far are `calls`,
-- whatever lines replace the lines of the waiting acts, and whatever lines follow
pub record CallsSoFar (events rest : List Event) (lines : List SeenLine) (waiting : List Ask)
    (calls : List Call) : Type 0 where
  pub recorded : AllByRecursion (λ a. a.event < length lines) waiting
  pub follows : has_vread rest ≡ false → waiting ≡ []
  pub calls_are : (acts more : List SeenLine) → length acts ≡ length waiting →
      calls_of events (emitted_anew lines waiting acts ++ more) ≡ calls ++ calls_from (all_bound waiting acts) rest more
