-- If the code ran a new call to a point of its first or second attempt, and it is stopped there, the record
-- `ReachedStop` holds.
use Rattle.std.proofs.Common.{◌≡◌, ℕ, ◌≤◌, List, [], ◌∷◌, refl, sym, subst, ap, ◌∙◌, arith, length}
use Rattle.key_names.specs.declared.events.Answer.TheVariants.{Ok as Done}
use Rattle.key_names.specs.declared.events.Event.TheVariants.{Reseed}
use Rattle.key_names.specs.declared.names.Step.{Step}
use Rattle.key_names.specs.declared.point.Point.{Point}
use Rattle.key_names.specs.declared.point.Point.TheVariants.{Serve}
use Rattle.key_names.specs.Callers.Effects.{Effect}
use Rattle.key_names.specs.Transcripts.SeenLine.{no_data}
use Rattle.key_names.specs.Kernel.VgetrandomState.{VgetrandomState}
use Rattle.key_names.specs.Callers.VreadSteps.{published_by}
use Rattle.lane_table.specs.declared.view.View.{View}
use Rattle.lane_table.specs.Steps.{both_of, halved}
use Rattle.lane_table.specs.Steps as steps
use Rattle.lane_table.specs.Advances.{floor}
use Rattle.vdso_state.specs.declared.place.Turn.{Turn}
use Rattle.vdso_state.specs.declared.place.Turn.TheVariants.{First, Second}
use Rattle.vcall_fork.specs.declared.stage.Stage.{Stage}
use Rattle.vcall_fork.specs.declared.stage.Stage.TheVariants.{New, At}
use Rattle.vcall_fork.specs.Forks.{ForksAreRecorded}
use Rattle.vcall_fork.specs.Stages.{published_or}
use Rattle.rng_core.specs.declared.setting.Setting.{Setting}
use Rattle.rng_core.specs.Makes.{IsOutcomeOf, setting_of}
use Rattle.rng_core.proofs.Makings.{did_floor}
use Rattle.rng_core.proofs.Hosting.{published_more}
use Rattle.fork_runs.specs.Stretches.{StoppedOver}
use Rattle.rng_core.specs.Traces.{knowing}
use Rattle.fork_runs.specs.Runs.{DidAll, ReachedStop}
use Rattle.fork_runs.proofs.Joining.{floor_child, joined_floor}
use Rattle.fork_runs.proofs.TwoStops.{stop_then}

-- if a caller has seen the generation that its stopped call read last, the same holds after another call
pub known_on : {P : List Effect → Type 0} (set : Setting) (left : Stage) (v w : View) (own : List Step) →
    published_or 0 left ≤ published_by (floor v) → DidAll P set v own w →
    published_or 0 left ≤ published_by (floor w)
known_on set left v w own low did =
    let a = published_more (floor v) (floor w) (did_floor set (knowing v []) (knowing w own) did) in omega arith

-- if a caller has seen the generation that its stopped call read last, the parent's pass and the child's pass have seen
-- it too after a fork
pub parent_known : (stage : Stage) (v before w : View) → published_or 0 stage ≤ published_by (floor v) →
    floor v ≤ floor before → w ≡ halved before → published_or 0 stage ≤ published_by (floor w)
parent_known stage v before w low up is =
    let more = published_more (floor v) (floor before) up in
    subst (λ (z : View). published_or 0 stage ≤ published_by (floor z)) (sym is) (omega arith)

pub child_known : (stage again : Stage) (v before half parents both : View) →
    published_or 0 stage ≤ published_by (floor v) → floor v ≤ floor before → half ≡ steps.child before → again ≡ stage →
    length half.lanes ≡ length parents.lanes → published_or 0 stage ≤ published_by (floor parents) →
    both ≡ both_of half parents → published_or 0 again ≤ published_by (floor both)
child_known stage again v before half parents both low up half_is same long parents_low is =
    let more = published_more (floor v) (floor before) up in
    let as_much : floor half ≡ floor before = ap floor half_is ∙ floor_child before in
    let halfs : published_by (floor half) ≡ published_by (floor before) = ap published_by as_much in
    let own : published_or 0 stage ≤ published_by (floor half) = omega arith in
    subst (λ (z : View). published_or 0 again ≤ published_by (floor z)) (sym is)
    (subst (λ (x : Stage). published_or 0 x ≤ published_by (floor (both_of half parents))) (sym same)
    (joined_floor (published_or 0 stage) half parents long own parents_low))

-- from `v` to `w` a caller ran a vgetrandom call until it was stopped, as a call with a trace of its own
abbrev pub Stopping : Setting → ℕ → ℕ → Stage → List ℕ → VgetrandomState → Turn → Point → Stage → List ℕ →
    VgetrandomState → View → View → Type 0
Stopping set n flags stage held s turn point left out t v w =
    (own : List Step) × StoppedOver set n flags stage held s turn point left out t (knowing v []) (knowing w own)

pub stop_known : (set : Setting) (n flags : ℕ) (stage : Stage) (held : List ℕ) (s : VgetrandomState) (turn : Turn)
    (point : Point) (left : Stage) (out : List ℕ) (t : VgetrandomState) (v w : View) →
    Stopping set n flags stage held s turn point left out t v w → published_or 0 left ≤ published_by (floor w)
stop_known set n flags stage held s turn point left out t v w k =
    subst (λ (x : Stage). published_or 0 x ≤ published_by (floor w)) (sym k.1.stage_is) k.1.known

pub by_first : (set : Setting) (n flags : ℕ) (stage : Stage) (held : List ℕ) (s : VgetrandomState) (point : Point)
    (left : Stage) (out : List ℕ) (t : VgetrandomState) (v w : View) → stage ≡ New →
    Stopping set n flags stage held s First point left out t v w → ReachedStop set n flags s First point left out t v w
by_first set n flags stage held s point left out t v w new k =
    let a = subst (λ (x : Stage). StoppedOver set n flags x held s First point left out t (knowing v []) (knowing w k.0))
    new k.1 in record {
      stop = a.stop;
      stage_is = a.stage_is;
      held_is = a.held_is;
      state_is = a.state_is;
      known = a.known;
      calls = k.0 ∷ [];
      ran = (k.0, refl, a.did);
    }

module _ (law : ForksAreRecorded) (set : Setting) (n flags : ℕ) (s : VgetrandomState) (point : Point) (stage mid left : Stage)
    (held half out : List ℕ) (u t : VgetrandomState) (v x y w : View) (new : stage ≡ New)
    (first : Stopping set n flags stage held s First Serve mid half u v x)
    (reseeded : (own : List Step) × DidAll (IsOutcomeOf (setting_of set) Reseed Done no_data) set x own y) where
  abbrev earlier : StoppedOver set n flags New held s First Serve mid half u (knowing v []) (knowing x first.0)
  earlier = subst (λ (z : Stage). StoppedOver set n flags z held s First Serve mid half u (knowing v [])
      (knowing x first.0)) new first.1

  by_both : (own : List Step) → StoppedOver set n flags (At earlier.stop.place) earlier.stop.held earlier.stop.state Second
      point left out t (knowing y []) (knowing w own) → ReachedStop set n flags s Second point left out t v w
  by_both own later = record {
    stop = stop_then law n flags s point earlier.stop later.stop;
    stage_is = later.stage_is;
    held_is = later.held_is;
    state_is = later.state_is;
    known = later.known;
    calls = first.0 ∷ reseeded.0 ∷ own ∷ [];
    ran = record {
      earlier = earlier.stop;
      later = later.stop;
      before_is = refl;
      own = first.0;
      reseeded = reseeded.0;
      more = own;
      calls_are = refl;
      at_serve = x;
      known = earlier.known;
      following = y;
      shown = earlier.did;
      reseeds = reseeded.1;
      shown_more = later.did;
    };
  }

  pub by_second : (n_again flags_again : ℕ) → n_again ≡ n → flags_again ≡ flags →
      Stopping set n_again flags_again mid half u Second point left out t y w →
      ReachedStop set n flags s Second point left out t v w
  by_second n_again flags_again same_n same_flags k =
      by_both k.0
      (subst (λ (z : VgetrandomState). StoppedOver set n flags (At earlier.stop.place) earlier.stop.held z Second point
      left out t (knowing y []) (knowing w k.0)) earlier.state_is
      (subst (λ (l : List ℕ). StoppedOver set n flags (At earlier.stop.place) l u Second point left out t (knowing y [])
      (knowing w k.0)) earlier.held_is
      (subst (λ (z : Stage). StoppedOver set n flags z half u Second point left out t (knowing y []) (knowing w k.0))
      earlier.stage_is
      (subst (λ (m : ℕ). StoppedOver set n m mid half u Second point left out t (knowing y []) (knowing w k.0))
      same_flags
      (subst (λ (m : ℕ). StoppedOver set m flags_again mid half u Second point left out t (knowing y [])
      (knowing w k.0)) same_n k.1)))))
