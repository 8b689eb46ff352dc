-- The steps of a call in its trace, and the effects that they have in the final lists.
use Rattle.std.specs.Prelude.{◌≡◌, ℕ, ◌<◌, List, [], ◌∷◌, ◌++◌, length, map, take}
use Rattle.std.specs.List.{AllByRecursion}
use mathlib.Core.Option.{some}
use lib.ListN.{get_elem?}
use Rattle.key_names.specs.declared.names.Mark.{Mark}
use Rattle.key_names.specs.declared.names.Step.{Step}
use Rattle.key_names.specs.declared.names.Step.TheVariants.{Look}
use Rattle.key_names.specs.Texts.TranscriptGrammar.{StepFits}
use Rattle.lane_table.specs.declared.view.Visit.{Visit}
use Rattle.lane_table.specs.declared.view.View.{View}
use Rattle.lane_table.specs.declared.view.Handed.{Handed}
use Rattle.lane_table.specs.declared.view.LaneEntry.{LaneEntry}
use Rattle.lane_table.specs.declared.lanes.Pass.{Pass}
use Rattle.lane_table.specs.Meaning.{Model, replay}
use Rattle.lane_table.specs.LaneNumbers.{index_of}
use Rattle.lane_table.specs.WorldRule.{known_of}
use Rattle.lane_table.specs.Calls.{view}
use Rattle.lane_table.specs.Advances.{MadeStep, visited, step_of, Advances}
use Rattle.rng_core.specs.declared.setting.Setting.{Setting}

-- the knowledge of a pass (`view`), and the steps that its trace has so far
pub record Moment : Type 0 where
  pub view : View
  pub steps : List Step

abbrev pub knowing : View → List Step → Moment
knowing v steps = record { view = v; steps = steps }

abbrev pub moment : Pass → List Step → Moment
moment pass steps = knowing (view pass) steps

-- from `m` to `n` the pass made exactly the steps `made_steps`, the trace lists them, and each step fits into a
-- transcript (`StepFits`)
pub record TraceRecords (set : Setting) (m n : Moment) (made_steps : List MadeStep) : Type 0 where
  pub trace : n.steps ≡ m.steps ++ map step_of made_steps
  pub went : Advances set.caller set.event (length m.steps) m.view n.view made_steps
  pub fits : AllByRecursion StepFits (map step_of made_steps)

-- the visit at the mark, as the view `v` knows it: its entry is `e`, it received the key `got`, and the lane's model
-- (its value in the proofs) before the visit was `s`
pub record Met (v : View) (mark : Mark) (s : Model) (e : LaneEntry) (got : Handed) : Type 0 where
  pub near : index_of mark.lane < length v.lanes
  pub visit : Visit
  pub there : get_elem? (known_of v (index_of mark.lane)) mark.place ≡ some visit
  pub is : visit.entry ≡ e
  pub was_handed : visit.got ≡ got
  pub before : replay (take mark.place (known_of v (index_of mark.lane))) ≡ s

-- one visit of `lane` was made, at `place` and with the entry `e`. It received the key `got`, and the lane's model
-- before the visit was `s`
pub record Visited (set : Setting) (m n : Moment) (lane place : ℕ) (s : Model) (e : LaneEntry) (got : Handed)
    : Type 0 where
  pub mark : Mark
  pub lane_is : index_of mark.lane ≡ lane
  pub place_is : mark.place ≡ place
  pub recorded : TraceRecords set m n (visited mark e ∷ [])
  pub met : Met n.view mark s e got

-- `after` is `before` and more steps, the first of which is a look
pub record BeginsWithLook (before after : List Step) : Type 0 where
  pub look : ℕ
  pub rest : List Step
  pub is : after ≡ before ++ Look look ∷ rest
