-- If a call on a ready core is run to a point of its first attempt, it is stopped there: it cannot end without reaching
-- the point. After a reseed, the same holds for each point of its second attempt.
use Rattle.std.proofs.Common.{◌≡◌, ℕ, zero, suc, ◌<◌, ◌≤◌, false, List, [], ◌∷◌, ◌++◌, Some, None, refl, sym, subst, ap, ◌∙◌, arith}
use Rattle.std.proofs.lemmas.Bool.{ne_eqb}
use Rattle.key_names.specs.declared.names.Step.{Step}
use Rattle.key_names.specs.declared.point.Point.{Point}
use Rattle.key_names.specs.declared.point.Point.TheVariants.{Start, Written, Serve, End}
use Rattle.key_names.specs.Kernel.Vgetrandom.{SystemAnswer, HostStep, publishes, system_call, at_point, AfterBoth, IsCall, Outcome, prefix_outcome}
use Rattle.key_names.specs.Kernel.VgetrandomState.{VgetrandomState, wiped_state}
use Rattle.key_names.specs.Callers.VreadSteps.{points_of, published_by}
use Rattle.lane_table.specs.declared.view.View.{View}
use Rattle.lane_table.specs.Advances.{floor}
use Rattle.vdso_state.specs.declared.place.Turn.{Turn}
use Rattle.vdso_state.specs.declared.place.Turn.TheVariants.{First, Second}
use Rattle.vdso_state.specs.Places.{AfterPlace, Climbs}
use Rattle.vdso_state.specs.Turns.{turn_number}
use Rattle.vdso_state.proofs.Leading.{climbs_append}
use Rattle.vcall_fork.specs.declared.stage.Stage.{Stage}
use Rattle.vcall_fork.specs.declared.stage.Stage.TheVariants.{New}
use Rattle.vcall_fork.specs.Forks.{ForksAreRecorded}
use Rattle.vcall_fork.specs.Stages.{turns_begun}
use Rattle.vcall_fork.specs.Stops.{Misses, RestOfCall, passes_by}
use Rattle.rng_core.specs.declared.setting.Setting.{Setting}
use Rattle.rng_core.specs.Traces.{knowing}
use Rattle.fork_runs.specs.Coming.{ComesTo, FirstAttemptComes, OnReadyCore, SecondAttemptComes}
use Rattle.fork_runs.specs.Stretches.{MissedOver, Stop, StoppedOver}
use Rattle.fork_runs.proofs.Looks.{publishes_some}
use Rattle.fork_runs.proofs.Paths.{FirstTried, Smooth, attempt_steps, first_tried, smooth_of, smooth_then, tries}
use Rattle.fork_runs.proofs.TwoStops.{parents_call}

never : (b : ℕ) → None ≡ Some b → ⊥
never b is = cc

-- the steps of a first attempt that takes a key reach each of its points
in_first : (point : Point) (looked published found : ℕ) (answer : SystemAnswer) (more : List HostStep) →
    ComesTo First point 0 (publishes looked ∷ attempt_steps published answer found more)
in_first Start looked published found answer more = refl
in_first Written looked published found answer more = refl
in_first Serve looked published found answer more = refl
in_first End looked published found answer more = refl

-- after the point Serve of the first attempt, the steps of a second attempt that takes a key reach each of its points
in_second : (point : Point) (look published found : ℕ) (answer : SystemAnswer) (more : List HostStep) →
    ComesTo Second point 1 (at_point End false ∷ publishes look ∷ attempt_steps published answer found more)
in_second Start look published found answer more = refl
in_second Written look published found answer more = refl
in_second Serve look published found answer more = refl
in_second End look published found answer more = refl

comes_by : (turn : Turn) (point : Point) (begun : ℕ) (xs ys : List HostStep) → xs ≡ ys → ComesTo turn point begun ys →
    ComesTo turn point begun xs
comes_by turn point begun xs ys same comes =
    ap (λ (l : List HostStep). passes_by turn point begun (points_of l)) same ∙ comes

pub first_attempt_comes : FirstAttemptComes
first_attempt_comes n point steps outcome low high some ready call core =
    let path = first_tried n some low high ready steps outcome core.climbs (smooth_of steps core.unwiped core.served) call
    in comes_by First point 0 steps
    (publishes path.looked ∷ attempt_steps path.tried.published path.tried.answer path.tried.found path.tried.more)
    (path.looks ∙ ap (λ (l : List HostStep). publishes path.looked ∷ l) path.tried.steps_are)
    (in_first point path.looked path.tried.published path.tried.found path.tried.answer path.tried.more)

-- The steps of a call that is stopped at the point Serve of its first attempt

record Cut (looked published : ℕ) (answer : SystemAnswer) (before later more : List HostStep) : Type 0 where
  front : before ≡ publishes looked ∷ publishes published ∷ at_point Start false ∷ at_point Written false
      ∷ system_call 32 0 answer ∷ []
  following : later ≡ more

module _ (looked published : ℕ) (answer : SystemAnswer) (later more : List HostStep) where
  abbrev whole : List HostStep
  whole = publishes looked ∷ publishes published ∷ at_point Start false ∷ at_point Written false
      ∷ system_call 32 0 answer ∷ at_point Serve false ∷ more

  cut : (before : List HostStep) (b : ℕ) → passes_by First Serve 0 (points_of before) ≡ Some b →
      before ++ at_point Serve false ∷ later ≡ whole → Cut looked published answer before later more
  cut [] b misses is = absurd (cc is)
  cut (x ∷ []) b misses is = absurd (cc is)
  cut (x ∷ y ∷ []) b misses is = absurd (cc is)
  cut (x ∷ y ∷ z ∷ []) b misses is = absurd (cc is)
  cut (x ∷ y ∷ z ∷ u ∷ []) b misses is = absurd (cc is)
  cut (x ∷ y ∷ z ∷ u ∷ v ∷ []) b misses is = record { front = cc; following = cc }
  cut (x ∷ y ∷ z ∷ u ∷ v ∷ w ∷ rest) b misses is =
      let same : x ∷ y ∷ z ∷ u ∷ v ∷ w ∷ rest ≡ publishes looked ∷ publishes published ∷ at_point Start false
      ∷ at_point Written false ∷ system_call 32 0 answer ∷ at_point Serve false ∷ rest = cc in
      absurd (never b (subst (λ (l : List HostStep). passes_by First Serve 0 (points_of l) ≡ Some b) same misses))

module _ (law : ForksAreRecorded) (n : ℕ) (point : Point) (stop : Stop (IsCall n 0 wiped_state) n 0 First Serve) (steps : List HostStep)
    (outcome : Outcome) (low mid next high : ℕ) (some : 1 ≤ n) (ready : 1 ≤ low)
    (misses : Misses First Serve 0 stop.before) (before : OnReadyCore low mid stop.before) (rises : mid < next)
    (rest : AfterPlace n 0 stop.place stop.held stop.state steps outcome) (after : OnReadyCore next high steps) where
  abbrev total : List HostStep
  total = stop.before ++ at_point Serve false ∷ steps

  later : Climbs mid high steps
  later = climbs_append mid next high [] steps (omega arith) after.climbs

  path : FirstTried n total
  path = first_tried n some low high ready total (prefix_outcome stop.entries outcome)
      (climbs_append low mid high stop.before (at_point Serve false ∷ steps) before.climbs later)
      (smooth_then stop.before (at_point Serve false ∷ steps) (smooth_of stop.before before.unwiped before.served)
      (refl, smooth_of steps after.unwiped after.served))
      (parents_call law n 0 wiped_state First Serve stop steps outcome rest)

  parts : Cut path.looked path.tried.published path.tried.answer stop.before steps
      (at_point End false ∷ publishes path.tried.found ∷ path.tried.more)
  parts = cut path.looked path.tried.published path.tried.answer steps
      (at_point End false ∷ publishes path.tried.found ∷ path.tried.more) stop.before misses.following misses.passes
      (path.looks ∙ ap (λ (l : List HostStep). publishes path.looked ∷ l) path.tried.steps_are)

  -- at its start the first attempt found a generation of at most `mid`, as each look before the point did; at its end
  -- it finds one of at least `next`
  known : path.tried.published ≤ mid
  known = (subst (Climbs low mid) parts.front before.climbs).1.1

  found_on : (next ≤ path.tried.found) × Climbs path.tried.found high path.tried.more
  found_on = subst (Climbs next high) parts.following after.climbs

  differs : path.tried.published < path.tried.found
  differs = let a = known in let b = found_on.0 in omega arith

  second_comes : ComesTo Second point 1 steps
  second_comes =
      let second = path.tried.goes_on (ne_eqb path.tried.published path.tried.found
      (λ same. let a = differs in omega arith)) in
      let smooth = subst Smooth parts.following (smooth_of steps after.unwiped after.served) in
      let again = tries n second.0 second.1 (AfterBoth n 0) path.tried.more second.2 path.tried.found high
      (let a = differs in let b = second.3 in omega arith) found_on.1 smooth.1 second.4 in
      comes_by Second point 1 steps (at_point End false ∷ publishes path.tried.found
      ∷ attempt_steps again.published again.answer again.found again.more)
      (parts.following
      ∙ ap (λ (l : List HostStep). at_point End false ∷ publishes path.tried.found ∷ l) again.steps_are)
      (in_second point path.tried.found again.published again.found again.answer again.more)

pub second_attempt_comes : ForksAreRecorded → SecondAttemptComes
second_attempt_comes law n point stop steps outcome low mid next high some ready misses before rises rest after =
    second_comes law n point stop steps outcome low mid next high some ready misses before rises rest after

-- The laws for a call whose host is a caller over the lanes

-- if generation b is above generation a, it is published as a higher number
published_above : (a b : ℕ) → a < b → published_by a < published_by b
published_above zero zero h = absurd (omega arith)
published_above zero (suc b) h = omega arith
published_above (suc a) zero h = absurd (omega arith)
published_above (suc a) (suc b) h = omega arith

pub never_misses_first : (n flags : ℕ) (stage : Stage) (held : List ℕ) (s : VgetrandomState) (point : Point) (v w : View) →
    stage ≡ New → flags ≡ 0 → s ≡ wiped_state → 1 ≤ n → 1 ≤ floor v →
    MissedOver n flags stage held s First point v w → ⊥
never_misses_first n flags stage held s point v w new plain wiped some ready missed =
    let k = subst (λ (z : VgetrandomState). MissedOver n 0 New held z First point v w) wiped
    (subst (λ (z : Stage). MissedOver n 0 z held s First point v w) new
    (subst (λ (f : ℕ). MissedOver n f stage held s First point v w) plain missed)) in
    let comes = first_attempt_comes n point k.steps k.outcome (published_by (floor v)) (published_by (floor w)) some
    (publishes_some (floor v) ready) k.rest
    (record { climbs = k.climbs; unwiped = k.unwiped; served = k.served }) in
    never k.misses.following (sym comes ∙ k.misses.passes)

module _ (law : ForksAreRecorded) (set : Setting) (n flags : ℕ) (stage mid : Stage) (held half : List ℕ) (s u : VgetrandomState) (point : Point)
    (v x y w : View) (new : stage ≡ New) (plain : flags ≡ 0) (wiped : s ≡ wiped_state) (some : 1 ≤ n)
    (ready : 1 ≤ floor v)
    (earlier : (own : List Step)
    × StoppedOver set n flags stage held s First Serve mid half u (knowing v []) (knowing x own))
    (rises : floor x < floor y) where
  abbrev own : List Step
  own = earlier.0

  e : StoppedOver set n 0 New held wiped_state First Serve mid half u (knowing v []) (knowing x own)
  e = subst (λ (z : VgetrandomState). StoppedOver set n 0 New held z First Serve mid half u (knowing v [])
      (knowing x own)) wiped
      (subst (λ (z : Stage). StoppedOver set n 0 z held s First Serve mid half u (knowing v []) (knowing x own)) new
      (subst (λ (f : ℕ). StoppedOver set n f stage held s First Serve mid half u (knowing v []) (knowing x own)) plain
      earlier.1))

  rests : (k : MissedOver n 0 mid half u Second point y w) →
      AfterPlace n 0 e.stop.place e.stop.held e.stop.state k.steps k.outcome
  rests k = subst (λ (z : VgetrandomState). AfterPlace n 0 e.stop.place e.stop.held z k.steps k.outcome) e.state_is
      (subst (λ (l : List ℕ). AfterPlace n 0 e.stop.place l u k.steps k.outcome) e.held_is
      (subst (λ (z : Stage). RestOfCall z n 0 half u k.steps k.outcome) e.stage_is k.rest))

  comes : (k : MissedOver n 0 mid half u Second point y w) → ComesTo Second point 1 k.steps
  comes k = second_attempt_comes law n point e.stop k.steps k.outcome (published_by (floor v)) (published_by (floor x))
      (published_by (floor y)) (published_by (floor w)) some (publishes_some (floor v) ready) e.misses
      (record { climbs = e.climbs; unwiped = e.stop.unwiped; served = e.served })
      (published_above (floor x) (floor y) rises) (rests k)
      (record { climbs = k.climbs; unwiped = k.unwiped; served = k.served })

  begun : turns_begun mid ≡ 1
  begun = ap turns_begun e.stage_is ∙ ap turn_number e.stop.turn_is

  pub never_misses_second : (n_again flags_again : ℕ) → n_again ≡ n → flags_again ≡ flags →
      MissedOver n_again flags_again mid half u Second point y w → ⊥
  never_misses_second n_again flags_again same_n same_flags missed =
      let k = subst (λ (m : ℕ). MissedOver m 0 mid half u Second point y w) same_n
      (subst (λ (f : ℕ). MissedOver n_again f mid half u Second point y w) (same_flags ∙ plain) missed) in
      let passes : passes_by Second point 1 (points_of k.steps) ≡ Some k.misses.following =
      subst (λ (m : ℕ). passes_by Second point m (points_of k.steps) ≡ Some k.misses.following) begun k.misses.passes in
      never k.misses.following (sym (comes k) ∙ passes)
