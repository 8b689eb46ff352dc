-- If the host of a part of a vgetrandom call is a caller over the lanes, the host's steps are those of the caller.
use Rattle.std.proofs.Common.{◌≡◌, ℕ, ◌<◌, ◌≤◌, arith, Bool, true, false, List, [], ◌∷◌, length, refl, ap, ◌∙◌, subst}
use Rattle.std.specs.Prelude.{◌&&◌, Result}
use Rattle.key_names.specs.declared.errno.Errno.{Errno}
use Rattle.key_names.specs.declared.point.Point.{Point}
use Rattle.key_names.specs.Kernel.Flags.{is_bad}
use Rattle.key_names.specs.Kernel.Vgetrandom.{read, failed, HostStep, publishes, system_call, at_point, Ending, no_bytes, by_batch, by_system}
use Rattle.key_names.specs.Kernel.VgetrandomState.{VgetrandomState}
use Rattle.key_names.specs.Callers.VreadSteps.{Shows, published_by}
use Rattle.lane_table.specs.Calls.{view}
use Rattle.lane_table.specs.Hands.{HoldsLanes}
use Rattle.lane_table.specs.Advances.{floor}
use Rattle.vdso_state.specs.declared.outcome.VEnd.{VEnd}
use Rattle.vdso_state.specs.declared.place.Turn.{Turn}
use Rattle.vdso_state.specs.Call.{EndsAs}
use Rattle.vdso_state.specs.Host.{DoesAll}
use Rattle.vdso_state.specs.Places.{Climbs, Ends}
use Rattle.vcall_fork.specs.declared.stage.Stage.{Stage}
use Rattle.vcall_fork.specs.Stages.{is_stopped, turns_begun}
use Rattle.vcall_fork.specs.Stops.{EndedBefore, RestOfCall, Stopped}
use Rattle.lane_table.specs.declared.lanes.Lanes.{Lanes}
use Rattle.rng_core.specs.declared.setting.Setting.{Setting}
use Rattle.rng_core.specs.declared.vdso.lane_host.LaneHost.{LaneHost}
use Rattle.rng_core.specs.Traces.{moment}
use Rattle.rng_core.specs.Makes.{Makes, setting_of}
use Rattle.rng_core.specs.Acts.{Ask, asks_of, wipes_at}
use Rattle.rng_core.specs.Acting.{ActConform, acting, is_first}
use Rattle.rng_core.specs.Hosting.{standing, SameLoans, hosting}
use Rattle.rng_core.proofs.ActRuns.{Own}
use Rattle.rng_core.proofs.Acting.{acted_own, host_acts}
use Rattle.rng_core.proofs.Hosting.{none_left, free_has}
use Rattle.fork_runs.specs.Coming.{IsGiven}
use Rattle.fork_runs.specs.Stretches.{AreUnwiped, AreServed, StoppedOver, MissedOver, GivesBytes, FinishedOver}
use Rattle.fork_runs.proofs.Serving.{all_served, rest_gives}

pub climbs_up : (low high : ℕ) (steps : List HostStep) → Climbs low high steps → low ≤ high
climbs_up low high [] h = h
climbs_up low high (publishes g ∷ steps) h = let a = h.0 in let b = climbs_up g high steps h.1 in omega arith
climbs_up low high (system_call n flags answer ∷ steps) h = climbs_up low high steps h
climbs_up low high (at_point point wiped ∷ steps) h = climbs_up low high steps h

never_both : (b : Bool) → (b && false) ≡ false
never_both true = refl
never_both false = refl

-- if a `vread` has no acts, none of its points wipes the state
unwiped : (steps : List HostStep) (s t : ActConform) → s.asks ≡ [] → DoesAll acting s steps t → AreUnwiped steps
unwiped [] s t none does = tt
unwiped (publishes g ∷ steps) s t none does = unwiped steps does.0 t (does.1.acts.asks ∙ none) does.2
unwiped (system_call n flags answer ∷ steps) s t none does = unwiped steps does.0 t (does.1.acts.asks ∙ none) does.2
unwiped (at_point point wiped ∷ steps) s t none does = (
  does.1.wipes ∙ ap (λ (asks : List Ask). is_first does.0.attempt && wipes_at asks point) none
      ∙ never_both (is_first does.0.attempt),
  unwiped steps does.0 t (does.1.asks ∙ none) does.2,
)

module _ {R : Type 0} (h last : LaneHost R) (steps : List HostStep) (does : DoesAll hosting h steps last) where
  acted : DoesAll acting (standing h) steps (standing last)
  acted = (host_acts steps h last does).0

  pub loans : SameLoans h last
  loans = (host_acts steps h last does).1

  pub has_still : HoldsLanes h.site.lanes.now h.site.set.caller [] last.site.pass.now
  has_still =
      subst (λ (set : Setting). HoldsLanes h.site.lanes.now set.caller [] last.site.pass.now) loans.site.set
      (subst (λ (t : Lanes). HoldsLanes t last.site.set.caller [] last.site.pass.now) loans.site.lanes
      (free_has _ _ _ last.free))

  module _ (idle : length h.acts.now ≡ 0) (two : 1 < length (view h.site.pass.now).lanes) where
    none : asks_of h.acts.now ≡ []
    none = ap asks_of (none_left h.acts.now idle)

    own : Own h.site.set (asks_of h.acts.now ≡ []) (Shows (setting_of h.site.set) steps)
        (moment h.site.pass.now h.site.trace.now) (moment last.site.pass.now last.site.trace.now)
    own = acted_own steps h.site.set (asks_of h.acts.now) (standing h) (standing last) refl refl two acted

    pub did_own : Makes (Shows (setting_of h.site.set) steps) h.site.set (moment h.site.pass.now h.site.trace.now)
        (moment last.site.pass.now last.site.trace.now)
    did_own = record { made_steps = own.made_steps; recorded = own.alone none; conforms = own.conforms }

    pub stays_unwiped : AreUnwiped steps
    stays_unwiped = unwiped steps (standing h) (standing last) none acted

  -- if the caller has seen the core ready, each system call with good flags reads its bytes
  pub serves : 1 ≤ floor (view h.site.pass.now) → AreServed steps
  serves ready = all_served steps (standing h) (standing last) ready acted

module _ {R : Type 0} (h last : LaneHost R) (idle : length h.acts.now ≡ 0) (two : 1 < length (view h.site.pass.now).lanes)
    (n flags : ℕ) (stage : Stage) (held : List ℕ) (s : VgetrandomState) where
  abbrev floor_of : LaneHost R → ℕ
  floor_of k = published_by (floor (view k.site.pass.now))

  pub stopped_over : (turn : Turn) (point : Point) (look : ℕ) (left : Stage) (looks calls : ℕ)
      (t : VgetrandomState) (out : List ℕ) → 1 ≤ floor (view h.site.pass.now) →
      Stopped hosting floor_of (RestOfCall stage n flags held s) n flags turn point (turns_begun stage) look left looks
      calls h last t out →
      StoppedOver h.site.set n flags stage held s turn point left out t (moment h.site.pass.now h.site.trace.now)
      (moment last.site.pass.now last.site.trace.now)
  stopped_over turn point look left looks calls t out ready k = record {
    stop = record {
      place = k.place;
      turn_is = k.turn_is;
      point_is = k.point_is;
      ready = k.may.ready;
      held = out;
      state = t;
      before = k.leads.steps;
      unwiped = stays_unwiped h last k.leads.steps k.leads.does idle two;
      entries = k.leads.entries;
      leads = k.leads.leads;
    };
    stage_is = k.stage_is;
    held_is = refl;
    state_is = refl;
    known = k.may.known;
    misses = k.misses;
    served = serves h last k.leads.steps k.leads.does ready;
    climbs = k.leads.climbs;
    did = did_own h last k.leads.steps k.leads.does idle two;
  }

  pub missed_over : (turn : Turn) (point : Point) (left : Stage) (result : Result VEnd Errno) (t : VgetrandomState)
      (out : List ℕ) → 1 ≤ floor (view h.site.pass.now) →
      EndedBefore hosting floor_of (RestOfCall stage n flags held s) turn point (turns_begun stage) left result h last t
      out →
      MissedOver n flags stage held s turn point (view h.site.pass.now) (view last.site.pass.now)
  missed_over turn point left result t out ready k = record {
    steps = k.ends.runs.steps;
    outcome = k.ends.runs.outcome;
    rest = k.ends.runs.relates;
    unwiped = stays_unwiped h last k.ends.runs.steps k.ends.runs.does idle two;
    misses = k.misses;
    served = serves h last k.ends.runs.steps k.ends.runs.does ready;
    climbs = k.ends.climbs;
  }

  gives_bytes : (ending : Ending) (result : Result VEnd Errno) (out : List ℕ) → EndsAs ending result out →
      IsGiven ending → GivesBytes ending out
  gives_bytes no_bytes result out is given = absurd given
  gives_bytes (by_batch bytes) result out is given = is.1
  gives_bytes (by_system (read bytes visit)) result out is given = is.1
  gives_bytes (by_system (failed errno)) result out is given = absurd given

  pub finished_over : (t : VgetrandomState) (result : Result VEnd Errno) (out : List ℕ) → is_stopped stage ≡ true →
      flags ≡ 0 → 1 ≤ floor (view h.site.pass.now) →
      Ends hosting floor_of (RestOfCall stage n flags held s) h last
      (record { state = t; result = result; buf = out }) →
      FinishedOver h.site.set n flags stage held s out (moment h.site.pass.now h.site.trace.now)
      (moment last.site.pass.now last.site.trace.now)
  finished_over t result out conforms plain ready k = record {
    steps = k.runs.steps;
    outcome = k.runs.outcome;
    rest = k.runs.relates;
    unwiped = stays_unwiped h last k.runs.steps k.runs.does idle two;
    climbs = k.climbs;
    gives = gives_bytes k.runs.outcome.ending result out k.runs.ends
        (rest_gives n flags (ap is_bad plain) stage held s k.runs.steps k.runs.outcome conforms
        (serves h last k.runs.steps k.runs.does ready) k.runs.relates);
    did = did_own h last k.runs.steps k.runs.does idle two;
  }
