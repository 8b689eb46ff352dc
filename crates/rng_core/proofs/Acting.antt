-- A caller as the host of a vgetrandom call with acts inside: it publishes generations, makes the call's system calls,
-- and runs the acts at their points.
use Rattle.std.proofs.Common.{◌≡◌, Bool, true, false, List, [], ◌∷◌, ◌++◌, length, ◌<◌, refl, sym, ap, ◌∙◌, subst, arith}
use Rattle.std.specs.Prelude.{MatchBool, ◌&&◌, if◌then◌else◌}
use Rattle.std.specs.List.{AllByRecursion}
use Rattle.key_names.specs.declared.point.Point.{Point}
use Rattle.key_names.specs.declared.point.Point.TheVariants.{Start}
use Rattle.key_names.specs.Callers.Effects.{Effect}
use Rattle.key_names.specs.Kernel.Vgetrandom.{HostStep, publishes, system_call, at_point}
use Rattle.key_names.specs.Kernel.Points.{is_same_point}
use Rattle.key_names.specs.Callers.VreadSteps.{published_by, Shows, PointReached, points_of, before_start, from_start, first_points, second_points}
use Rattle.lane_table.specs.declared.view.View.{View}
use Rattle.lane_table.specs.Advances.{looked, floor}
use Rattle.vdso_state.specs.Host.{Does, DoesAll}
use Rattle.rng_core.specs.declared.vdso.lane_host.LaneHost.{LaneHost}
use Rattle.rng_core.specs.declared.vdso.attempt.Attempt.{Attempt}
use Rattle.rng_core.specs.declared.vdso.attempt.Attempt.TheVariants.{Before, First, Later}
use Rattle.rng_core.specs.declared.setting.Setting.{Setting}
use Rattle.rng_core.specs.Traces.{TraceRecords}
use Rattle.rng_core.specs.Makes.{Makes, setting_of}
use Rattle.rng_core.specs.Hosted.{SystemCall}
use Rattle.rng_core.specs.Acts.{Ask, ActOutcome, ActsAt, wipes_at}
use Rattle.rng_core.specs.Acting.{attempt_at, is_first, acting, ActConform}
use Rattle.rng_core.specs.Hosting.{standing, SameLoans, hosting}
use Rattle.rng_core.proofs.ActRuns.{Onward, onward_same, onward_is, onward_then, acts_onward, did_onward, AllMeant, meant_at, all_onward, AllDone, done_at, done_same, long_at, Own, own_did, own_then, own_map, own_after}
use Rattle.rng_core.proofs.CallEnds.{PublishesUpTo}
use Rattle.rng_core.proofs.Makings.{did_look, did_nothing}
use Rattle.rng_core.proofs.Hosting.{published_more}
use Rattle.rng_core.proofs.SiteLemmas.{same_then}

step_asks : (s t : ActConform) (step : HostStep) → Does acting s step t → t.asks ≡ s.asks
step_asks s t (publishes g) k = k.acts.asks
step_asks s t (system_call n flags answer) k = k.acts.asks
step_asks s t (at_point point wiped) k = k.asks

-- if `b` is true, the acts of `asks` that are bound to `point` ran; otherwise the view and the outcomes are unchanged
abbrev Ran : Setting → Point → List Ask → Bool → View → View → List ActOutcome → List ActOutcome → Type 0
Ran set point asks b v w xs ys = MatchBool b (ActsAt set point asks v w xs ys) ((ys ≡ xs) × (w ≡ v))

ran_onward : (set : Setting) (point : Point) (asks : List Ask) (b : Bool) (v w : View) (xs ys : List ActOutcome) →
    Ran set point asks b v w xs ys → Onward v w
ran_onward set point asks true v w xs ys k = acts_onward set point asks v w xs ys k
ran_onward set point asks false v w xs ys k = onward_is v w k.1

-- if there are no acts (`asks` is empty), `Ran` leaves the view as it was
ran_none : (set : Setting) (point : Point) (b : Bool) (v w : View) (xs ys : List ActOutcome) →
    Ran set point [] b v w xs ys → w ≡ v
ran_none set point true v w [] [] k = k
ran_none set point true v w [] (y ∷ ys) k = absurd k
ran_none set point true v w (x ∷ xs) ys k = absurd k
ran_none set point false v w xs ys k = k.1

step_onward : (s t : ActConform) (step : HostStep) → Does acting s step t → Onward s.core.moment.view t.core.moment.view
step_onward s t (publishes g) k = record {
  sized = k.core.recorded.went.same.sized;
  grows = k.core.recorded.went.grows;
  floors = let a = k.core.above in let b = k.core.known in omega arith;
}
step_onward s t (system_call n flags answer) k = did_onward _ _ _ k.core.did
step_onward s t (at_point point wiped) k = ran_onward s.core.set point s.asks (is_first t.attempt) _ _ _ _ k.ran

-- The points of a vgetrandom call's first attempt, and those of its later attempts

-- `active` gives the points that a call still reaches in its first attempt, and `resting` gives the points that it
-- still reaches after the first attempt. Both depend on the current attempt
abbrev pub active : Attempt → List PointReached → List PointReached
active Before points = first_points points
active First points = before_start points
active Later points = []

abbrev pub resting : Attempt → List PointReached → List PointReached
resting Before points = second_points points
resting First points = from_start points
resting Later points = points

-- A caller that does a list of the host's steps, one after the other

pub acted_asks : (steps : List HostStep) (s t : ActConform) → DoesAll acting s steps t → t.asks ≡ s.asks
acted_asks [] s t does = ap (λ (k : ActConform). k.asks) (sym does)
acted_asks (step ∷ steps) s t does = acted_asks steps does.0 t does.2 ∙ step_asks s does.0 step does.1

pub acted_onward : (steps : List HostStep) (s t : ActConform) → DoesAll acting s steps t →
    Onward s.core.moment.view t.core.moment.view
acted_onward [] s t does = subst (λ (k : ActConform). Onward s.core.moment.view k.core.moment.view) does (onward_same _)
acted_onward (step ∷ steps) s t does = onward_then _ _ _ (step_onward s does.0 step does.1)
    (acted_onward steps does.0 t does.2)

pub acted_up_to : (steps : List HostStep) (s t : ActConform) → DoesAll acting s steps t →
    PublishesUpTo (published_by (floor t.core.moment.view)) steps
acted_up_to [] s t does = tt
acted_up_to (publishes g ∷ steps) s t does =
    let p = does.1.core in
    let more = published_more p.found (floor t.core.moment.view)
    (let a = p.known in let b = (acted_onward steps does.0 t does.2).floors in omega arith) in
    (let e = p.is in omega arith, acted_up_to steps does.0 t does.2)
acted_up_to (system_call n flags answer ∷ steps) s t does = acted_up_to steps does.0 t does.2
acted_up_to (at_point point wiped ∷ steps) s t does = acted_up_to steps does.0 t does.2

-- if a caller `s` did the host's steps `steps` and became `t`, its own steps have the effects of `steps`. If `asks` is
-- empty, it made no other steps
pub acted_own : (steps : List HostStep) (set : Setting) (asks : List Ask) (s t : ActConform) → s.core.set ≡ set →
    s.asks ≡ asks → 1 < length s.core.moment.view.lanes → DoesAll acting s steps t
    → Own set (asks ≡ []) (Shows (setting_of set) steps) s.core.moment t.core.moment
acted_own [] set asks s t same is_asks two does =
    subst (λ (k : ActConform). Own set (asks ≡ []) (Shows (setting_of set) []) s.core.moment k.core.moment) does
    (own_did set _ _ (did_nothing set _ two refl))
acted_own (publishes g ∷ steps) set asks s t same is_asks two does =
    let k = does.1 in
    let looks = subst (λ (z : Setting). TraceRecords z s.core.moment does.0.core.moment (looked k.core.found ∷ [])) same
    k.core.recorded in
    let own = acted_own steps set asks does.0 t (k.core.same ∙ same) (k.acts.asks ∙ is_asks)
    (let e = looks.went.same.sized in omega arith) does.2 in
    own_map _ _ (λ effects a. (
      k.core.found,
      a.rest,
      a.effects_are ∙ ap (λ (l : List Effect). l ++ a.rest) a.before,
      (k.core.is, a.following),
    ))
    (own_then _ _ _ (own_did set _ _ (did_look set _ _ k.core.found looks)) own)
acted_own (system_call n flags answer ∷ steps) set asks s t same is_asks two does =
    let k = does.1 in
    let did = subst (λ (z : Setting). Makes (SystemCall (setting_of z) n flags answer) z s.core.moment
    does.0.core.moment) same k.core.did in
    let own = acted_own steps set asks does.0 t (k.core.same ∙ same) (k.acts.asks ∙ is_asks)
    (let e = did.recorded.went.same.sized in omega arith) does.2 in
    own_map _ _ (λ effects a. record {
      call = a.first;
      rest = a.rest;
      effects_are = a.effects_are;
      form = a.before.form;
      answers = a.before.answers;
      goes_on = a.following;
    })
    (own_then _ _ _ (own_did set _ _ did) own)
acted_own (at_point point wiped ∷ steps) set asks s t same is_asks two does =
    let k = does.1 in
    let onward = step_onward s does.0 (at_point point wiped) k in
    let own = acted_own steps set asks does.0 t (k.set ∙ same) (k.asks ∙ is_asks) (let e = onward.sized in omega arith)
    does.2 in
    own_after _ _ _ k.steps onward
    (λ none. ran_none s.core.set point (is_first does.0.attempt) _ _ _ _
    (subst (λ (l : List Ask). Ran s.core.set point l (is_first does.0.attempt) s.core.moment.view
    does.0.core.moment.view s.outcomes does.0.outcomes) (is_asks ∙ none) k.ran)) own

-- `AsAsked`: the point wipes the state if and only if an act bound to that point is a wipe. `WipedSo`: this holds for
-- each point of the first attempt, and no later point wipes the state
abbrev AsAsked : List Ask → PointReached → Type 0
AsAsked asks reached = reached.wiped ≡ wipes_at asks reached.point

abbrev IsUnwiped : PointReached → Type 0
IsUnwiped reached = reached.wiped ≡ false

abbrev WipedSo : List Ask → Attempt → List PointReached → Type 0
WipedSo asks attempt points = AllByRecursion (AsAsked asks) (active attempt points)
    × AllByRecursion IsUnwiped (resting attempt points)

wiped_more : (asks : List Ask) (attempt : Attempt) (point : Point) (wiped : Bool) (points : List PointReached) →
    wiped ≡ (is_first (attempt_at attempt point) && wipes_at asks point) →
    WipedSo asks (attempt_at attempt point) points →
    WipedSo asks attempt (record { point = point; wiped = wiped } ∷ points)
wiped_more asks Before point wiped points e rest = ((e, rest.0), rest.1)
wiped_more asks First point wiped points e rest = go (is_same_point point Start) e rest
  where
    go : (b : Bool) → wiped ≡ (is_first (if b then Later else First) && wipes_at asks point) →
        WipedSo asks (if b then Later else First) points →
        AllByRecursion (AsAsked asks) (if b then [] else record { point = point; wiped = wiped } ∷ before_start points)
        × AllByRecursion IsUnwiped (if b then record { point = point; wiped = wiped } ∷ points else from_start points)
    go true e rest = (tt, (e, rest.1))
    go false e rest = ((e, rest.0), rest.1)
wiped_more asks Later point wiped points e rest = (tt, (e, rest.1))

pub acted_wipes : (steps : List HostStep) (asks : List Ask) (attempt : Attempt) (s t : ActConform) → s.asks ≡ asks →
    s.attempt ≡ attempt → DoesAll acting s steps t → WipedSo asks attempt (points_of steps)
acted_wipes [] asks Before s t same now does = (tt, tt)
acted_wipes [] asks First s t same now does = (tt, tt)
acted_wipes [] asks Later s t same now does = (tt, tt)
acted_wipes (publishes g ∷ steps) asks attempt s t same now does =
    let k = does.1.acts in acted_wipes steps asks attempt does.0 t (k.asks ∙ same) (k.attempt ∙ now) does.2
acted_wipes (system_call n flags answer ∷ steps) asks attempt s t same now does =
    let k = does.1.acts in acted_wipes steps asks attempt does.0 t (k.asks ∙ same) (k.attempt ∙ now) does.2
acted_wipes (at_point point wiped ∷ steps) asks attempt s t same now does =
    let k = does.1 in
    let next = k.attempt ∙ ap (λ (a : Attempt). attempt_at a point) now in
    wiped_more asks attempt point wiped (points_of steps)
    (k.wipes ∙ (λ i. is_first (next i) && wipes_at (same i) point))
    (acted_wipes steps asks (attempt_at attempt point) does.0 t (k.asks ∙ same) next does.2)

-- if `Ran` holds for `point`, and `AllDone` for the points `points` after it, then `AllDone` holds for `point` and
-- `points` together; `point` counts only if `b` is true
ran_done : (set : Setting) (point : Point) (wiped b : Bool) (asks : List Ask) (v w : View) (points : List PointReached)
    (xs ys zs : List ActOutcome) → Ran set point asks b v w xs ys → AllDone points asks ys zs →
    AllDone (if b then record { point = point; wiped = wiped } ∷ points else points) asks xs zs
ran_done set point wiped true asks v w points xs ys zs k rest = done_at set point wiped points asks v w xs ys zs k rest
ran_done set point wiped false asks v w points xs ys zs k rest =
    subst (λ (l : List ActOutcome). AllDone points asks l zs) k.0 rest

ran_long : (set : Setting) (point : Point) (b : Bool) (asks : List Ask) (v w : View) (xs ys : List ActOutcome) →
    length xs ≡ length asks → Ran set point asks b v w xs ys → length ys ≡ length asks
ran_long set point true asks v w xs ys long k = long_at set point false [] asks v w xs ys k
ran_long set point false asks v w xs ys long k = ap length k.0 ∙ long

active_more : (attempt : Attempt) (point : Point) (wiped : Bool) (points : List PointReached) →
    (if is_first (attempt_at attempt point) then record { point = point; wiped = wiped } ∷ active
    (attempt_at attempt point) points else active (attempt_at attempt point) points)
    ≡ active attempt (record { point = point; wiped = wiped } ∷ points)
active_more Before point wiped points = refl
active_more First point wiped points = go (is_same_point point Start)
  where
    go : (b : Bool) → (if is_first (if b then Later else First) then record { point = point; wiped = wiped } ∷ active
        (if b then Later else First) points else active (if b then Later else First) points)
        ≡ (if b then [] else record { point = point; wiped = wiped } ∷ before_start points)
    go true = refl
    go false = refl
active_more Later point wiped points = refl

pub acted_done : (steps : List HostStep) (asks : List Ask) (attempt : Attempt) (s t : ActConform) → s.asks ≡ asks →
    s.attempt ≡ attempt → length s.outcomes ≡ length asks → DoesAll acting s steps t
    → AllDone (active attempt (points_of steps)) asks s.outcomes t.outcomes
acted_done [] asks attempt s t same now long does =
    subst (λ (k : ActConform). AllDone (active attempt []) asks s.outcomes k.outcomes) does (go attempt)
  where
    go : (a : Attempt) → AllDone (active a []) asks s.outcomes s.outcomes
    go Before = done_same asks s.outcomes long
    go First = done_same asks s.outcomes long
    go Later = done_same asks s.outcomes long
acted_done (publishes g ∷ steps) asks attempt s t same now long does =
    let k = does.1.acts in
    subst (λ (l : List ActOutcome). AllDone (active attempt (points_of steps)) asks l t.outcomes) k.outcomes
    (acted_done steps asks attempt does.0 t (k.asks ∙ same) (k.attempt ∙ now) (ap length k.outcomes ∙ long) does.2)
acted_done (system_call n flags answer ∷ steps) asks attempt s t same now long does =
    let k = does.1.acts in
    subst (λ (l : List ActOutcome). AllDone (active attempt (points_of steps)) asks l t.outcomes) k.outcomes
    (acted_done steps asks attempt does.0 t (k.asks ∙ same) (k.attempt ∙ now) (ap length k.outcomes ∙ long) does.2)
acted_done (at_point point wiped ∷ steps) asks attempt s t same now long does =
    let k = does.1 in
    let next = k.attempt ∙ ap (λ (a : Attempt). attempt_at a point) now in
    let ran : Ran s.core.set point asks (is_first (attempt_at attempt point)) s.core.moment.view
    does.0.core.moment.view s.outcomes does.0.outcomes =
    subst (λ (b : Bool). Ran s.core.set point asks b s.core.moment.view does.0.core.moment.view s.outcomes
    does.0.outcomes) (ap is_first next)
    (subst (λ (l : List Ask). Ran s.core.set point l (is_first does.0.attempt) s.core.moment.view
    does.0.core.moment.view s.outcomes does.0.outcomes) same k.ran) in
    subst (λ (l : List PointReached). AllDone l asks s.outcomes t.outcomes)
    (active_more attempt point wiped (points_of steps))
    (ran_done s.core.set point wiped (is_first (attempt_at attempt point)) asks _ _
    (active (attempt_at attempt point) (points_of steps)) s.outcomes does.0.outcomes t.outcomes ran
    (acted_done steps asks (attempt_at attempt point) does.0 t (k.asks ∙ same) next
    (ran_long s.core.set point (is_first (attempt_at attempt point)) asks _ _ s.outcomes does.0.outcomes long ran)
    does.2))

-- if `Ran` holds from the view `v` to `w`, and the outcomes `xs` have their acts' meanings, the outcomes `ys` have them
-- too
ran_meant : (set : Setting) (point : Point) (b : Bool) (asks : List Ask) (v w : View) (xs ys : List ActOutcome) →
    Ran set point asks b v w xs ys → AllMeant set v asks xs → AllMeant set w asks ys
ran_meant set point true asks v w xs ys k all = meant_at set point asks v w xs ys k all
ran_meant set point false asks v w xs ys k all =
    subst (AllMeant set w asks) (sym k.0) (all_onward set v w asks xs (onward_is v w k.1) all)

pub acted_meant : (steps : List HostStep) (set : Setting) (asks : List Ask) (s t : ActConform) → s.core.set ≡ set →
    s.asks ≡ asks → DoesAll acting s steps t →
    AllMeant set s.core.moment.view asks s.outcomes → AllMeant set t.core.moment.view asks t.outcomes
acted_meant [] set asks s t is_set is_asks does all =
    subst (λ (k : ActConform). AllMeant set k.core.moment.view asks k.outcomes) does all
acted_meant (publishes g ∷ steps) set asks s t is_set is_asks does all =
    let k = does.1 in
    acted_meant steps set asks does.0 t (k.core.same ∙ is_set) (k.acts.asks ∙ is_asks) does.2
    (subst (AllMeant set does.0.core.moment.view asks) (sym k.acts.outcomes)
    (all_onward set _ _ asks s.outcomes (step_onward s does.0 (publishes g) k) all))
acted_meant (system_call n flags answer ∷ steps) set asks s t is_set is_asks does all =
    let k = does.1 in
    acted_meant steps set asks does.0 t (k.core.same ∙ is_set) (k.acts.asks ∙ is_asks) does.2
    (subst (AllMeant set does.0.core.moment.view asks) (sym k.acts.outcomes)
    (all_onward set _ _ asks s.outcomes (step_onward s does.0 (system_call n flags answer) k) all))
acted_meant (at_point point wiped ∷ steps) set asks s t is_set is_asks does all =
    let k = does.1 in
    let ran : Ran set point asks (is_first does.0.attempt) s.core.moment.view does.0.core.moment.view s.outcomes
    does.0.outcomes =
    subst (λ (z : Setting). Ran z point asks (is_first does.0.attempt) s.core.moment.view does.0.core.moment.view
    s.outcomes does.0.outcomes) is_set
    (subst (λ (l : List Ask). Ran s.core.set point l (is_first does.0.attempt) s.core.moment.view
    does.0.core.moment.view s.outcomes does.0.outcomes) is_asks k.ran) in
    acted_meant steps set asks does.0 t (k.set ∙ is_set) (k.asks ∙ is_asks) does.2
    (ran_meant set point (is_first does.0.attempt) asks s.core.moment.view does.0.core.moment.view s.outcomes
    does.0.outcomes ran all)

-- The host over the lanes (`LaneHost`) and its caller

module _ {R : Type 0} where
  loans_then : (h i j : LaneHost R) → SameLoans h i → SameLoans i j → SameLoans h j
  loans_then h i j a b = record {
    site = same_then h.site i.site j.site a.site b.site;
    acts = b.acts ∙ a.acts;
    out = b.out ∙ a.out;
  }

  host_step : (h next : LaneHost R) (step : HostStep) → Does hosting h step next →
      Does acting (standing h) step (standing next) × SameLoans h next
  host_step h next (publishes g) does = does
  host_step h next (system_call n flags answer) does = does
  host_step h next (at_point point wiped) does = does

  -- if the host `h` did the steps `steps` and became `last`, its caller did the same steps (`acting`)
  pub host_acts : (steps : List HostStep) (h last : LaneHost R) → DoesAll hosting h steps last →
      DoesAll acting (standing h) steps (standing last) × SameLoans h last
  host_acts [] h last does = (
    ap standing does,
    subst (SameLoans h) does (record {
      site = record { lanes = refl; set = refl; pass = refl; trace = refl };
      acts = refl;
      out = refl;
    }),
  )
  host_acts (step ∷ steps) h last does =
      let first = host_step h does.0 step does.1 in
      let rest = host_acts steps does.0 last does.2 in
      ((standing does.0, first.0, rest.0), loans_then h does.0 last first.1 rest.1)
