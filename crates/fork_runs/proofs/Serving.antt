-- On a core that was seen to be ready, each system call reads its bytes, and the rest of a stopped call gives bytes.
use Rattle.std.proofs.Common.{◌≡◌, ℕ, ◌≤◌, true, false, List, [], ◌∷◌, refl, sym, subst, arith}
use Rattle.key_names.specs.Kernel.Flags.{is_bad}
use Rattle.key_names.specs.Kernel.Vgetrandom.{HostStep, publishes, system_call, at_point}
use Rattle.key_names.specs.Kernel.Vgetrandom.{AttemptEnd, holds, outdated, not_keyed}
use Rattle.key_names.specs.Kernel.Vgetrandom.{Attempt, Outcome, BySystem, AfterBoth, IsAttempt, AttemptAndRest, AfterAttempt}
use Rattle.key_names.specs.Kernel.VgetrandomState.{VgetrandomState}
use Rattle.key_names.proofs.Lists.Each.{each_right}
use Rattle.lane_table.specs.Advances.{floor}
use Rattle.vdso_state.specs.declared.place.Place.{Place}
use Rattle.vdso_state.specs.declared.place.Turn.{Turn}
use Rattle.vdso_state.specs.declared.place.Turn.TheVariants.{First, Second}
use Rattle.vdso_state.specs.Host.{Does, DoesAll}
use Rattle.vdso_state.specs.Places.{IfOutdated, AfterPlace, FromPoint}
use Rattle.vcall_fork.specs.declared.stage.Stage.{Stage}
use Rattle.vcall_fork.specs.declared.stage.Stage.TheVariants.{New, At, Over}
use Rattle.vcall_fork.specs.Stages.{is_stopped}
use Rattle.vcall_fork.specs.Stops.{RestOfCall}
use Rattle.rng_core.specs.Acting.{ActConform, acting}
use Rattle.rng_core.proofs.Acting.{acted_onward}
use Rattle.fork_runs.specs.Coming.{EndsGiveBytes, IsGiven}
use Rattle.fork_runs.specs.Stretches.{AreServed, IsServed}

-- if a caller has seen the core ready before a step, the same holds after the step
stays_ready : (s t : ActConform) (step : HostStep) → 1 ≤ floor s.core.moment.view → Does acting s step t →
    1 ≤ floor t.core.moment.view
stays_ready s t step ready does = let a = (acted_onward (step ∷ []) s t (t, does, refl)).floors in omega arith

pub all_served : (steps : List HostStep) (s t : ActConform) → 1 ≤ floor s.core.moment.view → DoesAll acting s steps t →
    AreServed steps
all_served [] s t ready does = tt
all_served (publishes g ∷ steps) s t ready does =
    (tt, all_served steps does.0 t (stays_ready s does.0 (publishes g) ready does.1) does.2)
all_served (system_call n flags answer ∷ steps) s t ready does = (
  λ good. does.1.core.served good ready,
  all_served steps does.0 t (stays_ready s does.0 (system_call n flags answer) ready does.1) does.2,
)
all_served (at_point point wiped ∷ steps) s t ready does =
    (tt, all_served steps does.0 t (stays_ready s does.0 (at_point point wiped) ready does.1) does.2)

-- For each way in which a vgetrandom call can end: it gives bytes.

module _ (n flags : ℕ) (good : is_bad flags ≡ false) where
  system_gives : (s : VgetrandomState) (steps : List HostStep) (outcome : Outcome) → AreServed steps →
      BySystem n flags s steps outcome → IsGiven outcome.ending
  system_gives s steps outcome served k = subst (λ (o : Outcome). IsGiven o.ending) (sym k.outcome_is)
      ((subst AreServed k.steps_are served).0 good)

  tried_gives : (Outdated : ℕ → VgetrandomState → List HostStep → Outcome → Type 0)
      (Tried : List HostStep → Attempt → Type 0) (steps : List HostStep) (outcome : Outcome) →
      ((c : ℕ) (s : VgetrandomState) (rest : List HostStep) (after : Outcome) → AreServed rest →
      Outdated c s rest after → IsGiven after.ending) → AreServed steps →
      AttemptAndRest n flags Outdated Tried steps outcome → IsGiven outcome.ending
  tried_gives Outdated Tried steps outcome later served k =
      subst (λ (o : Outcome). IsGiven o.ending) (sym k.outcome_is) (go k.attempt.end k.goes_on)
    where
      rests : AreServed k.rest
      rests = each_right IsServed k.tried k.rest (subst AreServed k.steps_are served)

      go : (end : AttemptEnd) → AfterAttempt n flags Outdated end k.attempt k.rest k.outcome_after →
          IsGiven k.outcome_after.ending
      go holds h = subst (λ (o : Outcome). IsGiven o.ending) (sym h.outcome_is) tt
      go outdated h = later k.attempt.next_block k.attempt.state k.rest k.outcome_after rests h
      go not_keyed h = system_gives _ k.rest k.outcome_after rests h

  outdated_gives : (turn : Turn) (c : ℕ) (s : VgetrandomState) (steps : List HostStep) (outcome : Outcome) →
      AreServed steps → IfOutdated turn n flags c s steps outcome → IsGiven outcome.ending
  outdated_gives First c s steps outcome served k = tried_gives (AfterBoth n flags) (IsAttempt n c s) steps outcome
      (λ d t rest after rests. system_gives _ rest after rests) served k
  outdated_gives Second c s steps outcome served k = system_gives _ steps outcome served k

  place_gives : (place : Place) (out : List ℕ) (s : VgetrandomState) (steps : List HostStep) (outcome : Outcome) →
      AreServed steps → AfterPlace n flags place out s steps outcome → IsGiven outcome.ending
  place_gives place out s steps outcome served k = tried_gives (IfOutdated place.turn n flags)
      (FromPoint place.point n place.next_block place.published out s) steps outcome
      (λ c t rest after rests. outdated_gives place.turn c t rest after rests) served k

  -- the rest of a stopped call with good flags gives bytes, if its system calls read their bytes
  pub rest_gives : (stage : Stage) (out : List ℕ) (s : VgetrandomState) (steps : List HostStep) (outcome : Outcome) →
      is_stopped stage ≡ true → AreServed steps → RestOfCall stage n flags out s steps outcome → IsGiven outcome.ending
  rest_gives New out s steps outcome conforms served k = absurd (cc conforms)
  rest_gives (At place) out s steps outcome conforms served k = place_gives place out s steps outcome served k
  rest_gives Over out s steps outcome conforms served k = absurd (cc conforms)

pub ends_give_bytes : EndsGiveBytes
ends_give_bytes n flags place out s steps outcome good served rest =
    place_gives n flags good place out s steps outcome served rest
