-- A vgetrandom call whose host is a caller over the lanes. One part runs up to the point at which the call is stopped,
-- and the other part from there to the call's end.
use Rattle.std.specs.Prelude.{ℕ, ◌≡◌, ◌≤◌, ⊤, false, List, ◌++◌}
use Rattle.std.specs.List.{AllByRecursion}
use Rattle.key_names.specs.declared.entries.VEntry.{VEntry}
use Rattle.key_names.specs.declared.point.Point.{Point}
use Rattle.key_names.specs.Kernel.Flags.{is_bad}
use Rattle.key_names.specs.Kernel.Vgetrandom.{read, failed, HostStep, publishes, system_call, at_point, Ending, no_bytes, by_batch, by_system, Outcome, prefix_outcome}
use Rattle.key_names.specs.Kernel.VgetrandomState.{VgetrandomState}
use Rattle.key_names.specs.Callers.VreadSteps.{Shows, points_of, published_by}
use Rattle.lane_table.specs.declared.view.View.{View}
use Rattle.lane_table.specs.Advances.{floor}
use Rattle.vdso_state.specs.declared.place.Turn.{Turn}
use Rattle.vdso_state.specs.declared.place.Place.{Place}
use Rattle.vdso_state.specs.Places.{AtPlace, Climbs}
use Rattle.vcall_fork.specs.declared.stage.Stage.{Stage}
use Rattle.vcall_fork.specs.declared.stage.Stage.TheVariants.{At}
use Rattle.vcall_fork.specs.Stages.{turns_begun}
use Rattle.vcall_fork.specs.Stops.{Misses, RestOfCall}
use Rattle.rng_core.specs.declared.setting.Setting.{Setting}
use Rattle.rng_core.specs.Hosted.{IsRead}
use Rattle.rng_core.specs.Traces.{Moment}
use Rattle.rng_core.specs.Makes.{Makes, setting_of}

-- no point of the host's steps wiped the state
abbrev pub AreUnwiped : List HostStep → Type 0
AreUnwiped steps = AllByRecursion (λ reached. reached.wiped ≡ false) (points_of steps)

-- if the step is a system call with good flags, it read its bytes
abbrev pub IsServed : HostStep → Type 0
IsServed (publishes g) = ⊤
IsServed (system_call n flags answer) = is_bad flags ≡ false → IsRead answer
IsServed (at_point point wiped) = ⊤

abbrev pub AreServed : List HostStep → Type 0
AreServed steps = AllByRecursion IsServed steps

-- a call for `n` bytes is stopped at a point of an attempt: the steps before the point, and the call's buffer and state
-- there. `From` relates all steps of the call, before the point and after it, to the call's outcome
pub record Stop (From : List HostStep → Outcome → Type 0) (n flags : ℕ) (turn : Turn) (point : Point) : Type 0 where
  pub place : Place
  pub turn_is : place.turn ≡ turn
  pub point_is : place.point ≡ point
  pub ready : 1 ≤ place.published
  pub held : List ℕ
  pub state : VgetrandomState
  pub before : List HostStep
  pub unwiped : AreUnwiped before
  pub entries : List VEntry
  pub leads : (rest : List HostStep) (outcome : Outcome) → AtPlace n flags place held state rest outcome →
      From (before ++ rest) (prefix_outcome entries outcome)

-- from `l` to `m` a caller ran a call until it was stopped; the call's stage, buffer and state changed from `stage`,
-- `held` and `s` to `left`, `out` and `t`
pub record StoppedOver (set : Setting) (n flags : ℕ) (stage : Stage) (held : List ℕ) (s : VgetrandomState)
    (turn : Turn) (point : Point) (left : Stage) (out : List ℕ) (t : VgetrandomState) (l m : Moment) : Type 0 where
  pub stop : Stop (RestOfCall stage n flags held s) n flags turn point
  pub stage_is : left ≡ At stop.place
  pub held_is : out ≡ stop.held
  pub state_is : t ≡ stop.state
  pub known : stop.place.published ≤ published_by (floor m.view)
  pub misses : Misses turn point (turns_begun stage) stop.before
  pub served : AreServed stop.before
  pub climbs : Climbs (published_by (floor l.view)) (published_by (floor m.view)) stop.before
  pub did : Makes (Shows (setting_of set) stop.before) set l m

-- from `v` to `w` a caller ran a call to its end, and the call never reached the point `point` of the attempt `turn`
pub record MissedOver (n flags : ℕ) (stage : Stage) (held : List ℕ) (s : VgetrandomState) (turn : Turn) (point : Point)
    (v w : View) : Type 0 where
  pub steps : List HostStep
  pub outcome : Outcome
  pub rest : RestOfCall stage n flags held s steps outcome
  pub unwiped : AreUnwiped steps
  pub misses : Misses turn point (turns_begun stage) steps
  pub served : AreServed steps
  pub climbs : Climbs (published_by (floor v)) (published_by (floor w)) steps

-- a call with this ending gave the bytes `out`
abbrev pub GivesBytes : Ending → List ℕ → Type 0
GivesBytes no_bytes out = ⊥
GivesBytes (by_batch bytes) out = out ≡ bytes
GivesBytes (by_system (read bytes visit)) out = out ≡ bytes
GivesBytes (by_system (failed errno)) out = ⊥

-- from `l` to `m` a caller ran the rest of a call to its end, and the call gave the bytes `out`
pub record FinishedOver (set : Setting) (n flags : ℕ) (stage : Stage) (held : List ℕ) (s : VgetrandomState)
    (out : List ℕ) (l m : Moment) : Type 0 where
  pub steps : List HostStep
  pub outcome : Outcome
  pub rest : RestOfCall stage n flags held s steps outcome
  pub unwiped : AreUnwiped steps
  pub climbs : Climbs (published_by (floor l.view)) (published_by (floor m.view)) steps
  pub gives : GivesBytes outcome.ending out
  pub did : Makes (Shows (setting_of set) steps) set l m
