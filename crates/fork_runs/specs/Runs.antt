-- What a caller does over the lanes until its vgetrandom call is stopped, and after the call forks there.
use Rattle.std.specs.Prelude.{ℕ, ◌≡◌, ◌≤◌, false, List, [], ◌∷◌, ◌++◌}
use Rattle.key_names.specs.declared.entries.BaseEntry.TheVariants.{Fork}
use Rattle.key_names.specs.declared.events.Answer.TheVariants.{Ok as Done}
use Rattle.key_names.specs.declared.events.Event.TheVariants.{Reseed}
use Rattle.key_names.specs.declared.names.Step.{Step}
use Rattle.key_names.specs.declared.point.Point.{Point}
use Rattle.key_names.specs.declared.point.Point.TheVariants.{Serve}
use Rattle.key_names.specs.Callers.Effects.{Effect}
use Rattle.key_names.specs.Callers.Forms.{BaseOnly}
use Rattle.key_names.specs.Transcripts.SeenLine.{no_data}
use Rattle.key_names.specs.Kernel.Vgetrandom.{at_point, HostStep, IsCall}
use Rattle.key_names.specs.Kernel.VgetrandomState.{VgetrandomState, wiped_state}
use Rattle.key_names.specs.Callers.VreadSteps.{Shows, published_by}
use Rattle.lane_table.specs.declared.view.View.{View}
use Rattle.lane_table.specs.Steps.{halved, both_of}
use Rattle.lane_table.specs.Steps as steps
use Rattle.lane_table.specs.Advances.{floor}
use Rattle.vdso_state.specs.declared.place.Turn.{Turn}
use Rattle.vdso_state.specs.declared.place.Turn.TheVariants.{First, Second}
use Rattle.vdso_state.specs.Places.{AfterPlace}
use Rattle.vcall_fork.specs.declared.stage.Stage.{Stage}
use Rattle.vcall_fork.specs.declared.stage.Stage.TheVariants.{At}
use Rattle.rng_core.specs.declared.setting.Setting.{Setting}
use Rattle.rng_core.specs.Traces.{knowing}
use Rattle.rng_core.specs.Makes.{Makes, IsOutcomeOf, setting_of}
use Rattle.rng_core.specs.Settings.{first_setting}
use Rattle.fork_runs.specs.Stretches.{Stop, FinishedOver}

-- from the view `v` to the view `w` the caller made one call, whose trace is `steps`, and `P` holds for the effects of
-- this call
abbrev pub DidAll : (List Effect → Type 0) → Setting → View → List Step → View → Type 0
DidAll P set v steps w = Makes P set (knowing v []) (knowing w steps)

pub record RanBySecond (set : Setting) (n flags : ℕ) (s : VgetrandomState) (point : Point) (before : List HostStep)
    (v : View) (calls : List (List Step)) (w : View) : Type 0 where
  pub earlier : Stop (IsCall n flags s) n flags First Serve
  pub later : Stop (AfterPlace n flags earlier.place earlier.held earlier.state) n flags Second point
  pub before_is : before ≡ earlier.before ++ at_point Serve false ∷ later.before
  pub own : List Step
  pub reseeded : List Step
  pub more : List Step
  pub calls_are : calls ≡ own ∷ reseeded ∷ more ∷ []
  pub at_serve : View
  pub known : earlier.place.published ≤ published_by (floor at_serve)
  pub following : View
  pub shown : DidAll (Shows (setting_of set) earlier.before) set v own at_serve
  pub reseeds : DidAll (IsOutcomeOf (setting_of set) Reseed Done no_data) set at_serve reseeded following
  pub shown_more : DidAll (Shows (setting_of set) later.before) set following more w

abbrev pub RanBy : Setting → ℕ → ℕ → VgetrandomState → Turn → Point → List HostStep → View → List (List Step) → View →
    Type 0
RanBy set n flags s First point before v calls w =
    (own : List Step) × (calls ≡ own ∷ []) × DidAll (Shows (setting_of set) before) set v own w
RanBy set n flags s Second point before v calls w = RanBySecond set n flags s point before v calls w

-- from `v` to `w` a caller ran a new vgetrandom call to a point of an attempt. The call is stopped there, with this
-- stage, buffer and state
pub record ReachedStop (set : Setting) (n flags : ℕ) (s : VgetrandomState) (turn : Turn) (point : Point)
    (left : Stage) (out : List ℕ) (t : VgetrandomState) (v w : View) : Type 0 where
  pub stop : Stop (IsCall n flags s) n flags turn point
  pub stage_is : left ≡ At stop.place
  pub held_is : out ≡ stop.held
  pub state_is : t ≡ stop.state
  pub known : stop.place.published ≤ published_by (floor w)
  pub calls : List (List Step)
  pub ran : RanBy set n flags s turn point stop.before v calls w

-- from `v` to `w` a stopped call forked: the caller forked caller 1, and ended its own call. Then the child's pass took
-- in the caller's pass, and the child ended its call
pub record ForkedOver (set : Setting) (n flags : ℕ) (stage : Stage) (held : List ℕ) (s : VgetrandomState)
    (parent child : List ℕ) (v w : View) : Type 0 where
  pub forked : List Step
  pub at_fork : View
  pub forks : DidAll (BaseOnly (Fork 1)) set v forked at_fork
  pub parents : List Step
  pub parent_end : View
  pub parent_ends : FinishedOver set n flags stage held s parent (knowing (halved at_fork) []) (knowing parent_end parents)
  pub childs : List Step
  pub child_ends : FinishedOver (first_setting 1) n flags stage held wiped_state child
      (knowing (both_of (steps.child at_fork) parent_end) []) (knowing w childs)
