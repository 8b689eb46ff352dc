-- The line of a fork. The child has a thread of its own, or runs in its parent's thread.
use Rattle.std.specs.Prelude.{◌≡◌, ℕ, List, [], ◌∷◌, ◌++◌, length}
use Rattle.key_names.specs.declared.events.Event.TheVariants.{Fork}
use Rattle.key_names.specs.declared.names.Mark.{Mark}
use Rattle.key_names.specs.declared.names.Step.{Step}
use Rattle.key_names.specs.declared.names.Step.TheVariants.{Visit as Marked}
use Rattle.key_names.specs.Callers.Calls as calls
use Rattle.key_names.specs.Callers.Effects.{effects_of}
use Rattle.key_names.specs.Callers.Forms.{Form}
use Rattle.lane_table.specs.declared.view.Visit.{Visit}
use Rattle.lane_table.specs.declared.view.View.{View}
use Rattle.lane_table.specs.BookLists.{StateLists, book_lists}
use Rattle.lane_table.specs.BookLaws.{Continues}
use Rattle.rng_core.specs.declared.setting.Setting.{Setting}
use Rattle.rng_core.specs.Traces.{Moment, knowing}
use Rattle.caller_run.specs.NumberedSteps.{NumberedStep, items_of}
use Rattle.caller_run.specs.Items.{items_from}
use Rattle.caller_run.specs.Ran.{RanBy}

-- from m to n the caller took these steps of one line, and its pass was split `splits` times
pub record Tells (set : Setting) (splits : ℕ) (m n : Moment) (steps : List Step) : Type 0 where
  pub trace : n.steps ≡ m.steps ++ steps
  pub numbered_steps : List NumberedStep
  pub ran : RanBy set.caller splits m.view n.view numbered_steps
  pub order : items_of numbered_steps ≡ items_from set.event (length m.steps) steps

-- from v to w the caller took these steps, in the line of the fork of caller `child`. The first step is the fork's
-- visit, and u is the pass's view after that visit
pub record Took (set : Setting) (child : ℕ) (v u w : View) (steps : List Step) : Type 0 where
  pub mark : Mark
  pub rest : List Step
  pub steps_are : steps ≡ Marked mark ∷ rest
  pub first : Tells set 0 (knowing v []) (knowing u (Marked mark ∷ [])) (Marked mark ∷ [])
  pub following : Tells set 1 (knowing u (Marked mark ∷ [])) (knowing w steps) rest
  pub form : (lanes : ℕ) (visits : ℕ → List Visit) (callers : StateLists) → Continues lanes w visits →
      (set : calls.Setting) → Form set (Fork child) (effects_of (book_lists lanes visits callers) steps)
