-- A vgetrandom call that was stopped at a point, or is new, and goes on to a later point or to its end.
use Rattle.std.specs.Prelude.{ℕ, suc, ◌≡◌, ◌==◌, ◌&&◌, Bool, true, Option, Some, None, Result, List, [], ◌∷◌, if◌then◌else◌}
use Rattle.key_names.specs.declared.errno.Errno.{Errno}
use Rattle.key_names.specs.declared.point.Point.{Point}
use Rattle.key_names.specs.declared.point.Point.TheVariants.{Start}
use Rattle.key_names.specs.Kernel.Vgetrandom.{HostStep, Outcome, IsCall}
use Rattle.key_names.specs.Kernel.VgetrandomState.{VgetrandomState}
use Rattle.key_names.specs.Kernel.Points.{is_same_point}
use Rattle.key_names.specs.Callers.VreadSteps.{PointReached, points_of}
use Rattle.vdso_state.specs.declared.outcome.VEnd.{VEnd}
use Rattle.vdso_state.specs.declared.place.Turn.{Turn}
use Rattle.vdso_state.specs.declared.place.Place.{Place}
use Rattle.vdso_state.specs.declared.place.Came.{Came}
use Rattle.vdso_state.specs.declared.place.Came.TheVariants.{At as CameAtPlace, Ended as CameEnded}
use Rattle.vdso_state.specs.Host.{Doings}
use Rattle.vdso_state.specs.Turns.{turn_number}
use Rattle.vdso_state.specs.Places.{AfterPlace, AtPlace, last_look, Leads, Ends, MayGoOn}
use Rattle.vcall_fork.specs.declared.stage.Progress.{Progress}
use Rattle.vcall_fork.specs.declared.stage.Progress.TheVariants.{At, Ended}
use Rattle.vcall_fork.specs.declared.stage.Stage.{Stage}
use Rattle.vcall_fork.specs.declared.stage.Stage.TheVariants.{New, At as ConformsAt, Over}

-- the rest of a call for `n` bytes on the state `s`, with `out` in the buffer: the whole call if it is new, or the part
-- after the point at which the call stopped
abbrev pub RestOfCall : Stage → ℕ → ℕ → List ℕ → VgetrandomState → List HostStep → Outcome → Type 0
RestOfCall New n flags out s steps outcome = IsCall n flags s steps outcome
RestOfCall (ConformsAt place) n flags out s steps outcome = AfterPlace n flags place out s steps outcome
RestOfCall Over n flags out s steps outcome = ⊥

-- if `begun` attempts began before a point, the number of the attempt to which the point belongs; a point Start begins
-- an attempt
abbrev pub turn_at : ℕ → Point → ℕ
turn_at begun point = if is_same_point point Start then suc begun else begun

abbrev pub is_wanted : Turn → Point → ℕ → Point → Bool
is_wanted turn point now here = now == turn_number turn && is_same_point here point

-- how many attempts have begun after the given points, or `None` if they include `point` of the attempt `turn`
abbrev pub passes_by : Turn → Point → ℕ → List PointReached → Option ℕ
passes_by turn point begun [] = Some begun
passes_by turn point begun (reached ∷ points) =
    let now = turn_at begun reached.point in
    if is_wanted turn point now reached.point then None else passes_by turn point now points

-- `steps` never reach `point` of the attempt `turn`
pub record Misses (turn : Turn) (point : Point) (begun : ℕ) (steps : List HostStep) : Type 0 where
  pub following : ℕ
  pub passes : passes_by turn point begun (points_of steps) ≡ Some following

module _ {H : Type 0} (host : Doings H) (floor : H → ℕ) where
  -- the call is stopped at `point` of the attempt `turn`, before the host's step at that point. `place` records the
  -- generation that the call found last: by the last look of the host's steps up to this stop, or `look` if these steps
  -- have no look. A host with `looks` looks and `calls` system calls left can serve the rest of the call
  pub record Stopped (From : List HostStep → Outcome → Type 0) (n flags : ℕ) (turn : Turn) (point : Point)
      (begun look : ℕ) (stage : Stage) (looks calls : ℕ) (h next : H) (s : VgetrandomState)
      (buf : List ℕ) : Type 0 where
    pub place : Place
    pub stage_is : stage ≡ ConformsAt place
    pub turn_is : place.turn ≡ turn
    pub point_is : place.point ≡ point
    pub may : MayGoOn place looks calls (floor next)
    pub leads : Leads host floor From (AtPlace n flags place buf s) h next
    pub misses : Misses turn point begun leads.steps
    pub found : place.published ≡ last_look look leads.steps

  -- the call ended before it reached `point` of the attempt `turn`
  pub record EndedBefore (From : List HostStep → Outcome → Type 0) (turn : Turn) (point : Point) (begun : ℕ)
      (stage : Stage) (result : Result VEnd Errno) (h last : H) (s : VgetrandomState) (buf : List ℕ) : Type 0 where
    pub over : stage ≡ Over
    pub ends : Ends host floor From h last (record { state = s; result = result; buf = buf })
    pub misses : Misses turn point begun ends.runs.steps

  abbrev pub RanTo : (List HostStep → Outcome → Type 0) → ℕ → ℕ → Turn → Point → ℕ → ℕ → Stage → Progress → ℕ → ℕ →
      H → H → VgetrandomState → List ℕ → Type 0
  RanTo From n flags turn point begun look stage At looks calls h next s buf =
      Stopped From n flags turn point begun look stage looks calls h next s buf
  RanTo From n flags turn point begun look stage (Ended result) looks calls h last s buf =
      EndedBefore From turn point begun stage result h last s buf

  -- the call, whose steps and outcome `From` defines, came to `place`, which is `point` of the attempt `turn`
  pub record CameAt (From : List HostStep → Outcome → Type 0) (n flags : ℕ) (turn : Turn) (point : Point)
      (begun look : ℕ) (place : Place) (looks calls : ℕ) (h next : H) (s : VgetrandomState)
      (buf : List ℕ) : Type 0 where
    pub leads : Leads host floor From (AtPlace n flags place buf s) h next
    pub misses : Misses turn point begun leads.steps
    pub found : place.published ≡ last_look look leads.steps
    pub wanted : is_wanted turn point (turn_number place.turn) place.point ≡ true
    pub may : MayGoOn place looks calls (floor next)

  -- the call ended before it reached `point` of the attempt `turn`
  pub record CameToEnd (From : List HostStep → Outcome → Type 0) (turn : Turn) (point : Point) (begun : ℕ)
      (result : Result VEnd Errno) (h last : H) (s : VgetrandomState) (buf : List ℕ) : Type 0 where
    pub ends : Ends host floor From h last (record { state = s; result = result; buf = buf })
    pub misses : Misses turn point begun ends.runs.steps

  abbrev pub CameBy : (List HostStep → Outcome → Type 0) → ℕ → ℕ → Turn → Point → ℕ → ℕ → Came → ℕ → ℕ → H → H →
      VgetrandomState → List ℕ → Type 0
  CameBy From n flags turn point begun look (CameAtPlace place) looks calls h next s buf =
      CameAt From n flags turn point begun look place looks calls h next s buf
  CameBy From n flags turn point begun look (CameEnded result) looks calls h last s buf =
      CameToEnd From turn point begun result h last s buf
