-- Computes, from the effects of a vgetrandom call's line, steps of the host (what the call asks for generations and
-- system calls) that lead to an outcome. The result is none if no such steps are found.
use Rattle.std.proofs.Common.{◌≡◌, ℕ, Bool, true, false, Option, Some, None, List, [], ◌∷◌, ◌++◌, refl, sym, append-nil}
use Rattle.std.proofs.Common.{◌==◌}
use Rattle.std.specs.Prelude.{MatchBool}
use Rattle.key_names.specs.declared.point.Point.{Point}
use Rattle.key_names.specs.declared.point.Point.TheVariants.{Start, Written, Serve, End}
use Rattle.key_names.specs.Kernel.Flags.{is_bad}
use Rattle.key_names.specs.Callers.Calls.{Setting}
use Rattle.key_names.specs.Callers.Effects.{Effect, looked, at_base, at_cpu}
use Rattle.key_names.specs.Kernel.VgetrandomState.{VgetrandomState, state_left}
use Rattle.key_names.specs.Kernel.Vgetrandom.{CpuPlace, SystemAnswer, read, failed, HostStep, system_call, publishes, Attempt}
use Rattle.key_names.specs.Kernel.Vgetrandom.{AttemptEnd, holds, outdated, not_keyed, IsAttempt, Outcome, prefix_outcome}
use Rattle.key_names.specs.Kernel.Vgetrandom.{by_system, by_batch, no_bytes, state_after_call, BySystem, ByNothing}
use Rattle.key_names.specs.Kernel.Vgetrandom.{AfterAttempt, AttemptAndRest, SecondAttempt, FirstAttempt, AfterBoth, FromLook}
use Rattle.key_names.specs.Kernel.Vgetrandom.{FromPublished, IsCall}
use Rattle.key_names.specs.Callers.VreadSteps.{Shows, published_by, answer_after}
use Rattle.key_names.proofs.Vgetrandom.Attempts.{current_attempt, current_steps, keyed_attempt, keyed_steps}
use Rattle.worked_cases.proofs.Decided.{found_by, found_both}
use Rattle.worked_cases.proofs.FoundForms.{no_steps, system_call_found}

-- the host's `steps` lead to `outcome`, and `effects` are the effects of these steps
pub record HostFound (set : Setting) (Leads : List HostStep → Outcome → Type 0) (effects : List Effect) : Type 0 where
  pub steps : List HostStep
  pub outcome : Outcome
  pub leads : Leads steps outcome
  pub shows : Shows set steps effects

-- `effects` begin with the effects of one attempt of a vgetrandom call, and `rest` are the effects after it
pub record AttemptFound (set : Setting) (n c : ℕ) (s : VgetrandomState) (effects : List Effect) : Type 0 where
  pub steps : List HostStep
  pub attempt : Attempt
  pub rest : List Effect
  pub tries : IsAttempt n c s steps attempt
  pub shows : (more : List HostStep) → Shows set more rest → Shows set (steps ++ more) effects

abbrev host_by_test : {set : Setting} {P Q : List HostStep → Outcome → Type 0} {effects : List Effect} (b : Bool) →
    Option (HostFound set P effects) → Option (HostFound set Q effects) →
    Option (HostFound set (λ steps outcome. MatchBool b (P steps outcome) (Q steps outcome)) effects)
host_by_test true p q = p
host_by_test false p q = q

abbrev pub system_found : (set : Setting) (n flags : ℕ) (s : VgetrandomState) (effects : List Effect) →
    Option (HostFound set (BySystem n flags s) effects)
system_found set n flags s effects = found_by (λ form. record {
  steps = system_call n flags (answer_after flags effects) ∷ [];
  outcome = record { ending = by_system (answer_after flags effects); state = s; entries = [] };
  leads = record { answer = answer_after flags effects; steps_are = refl; outcome_is = refl };
  shows = record {
    call = effects;
    rest = [];
    effects_are = sym (append-nil effects);
    form = form;
    answers = refl;
    goes_on = refl;
  };
}) (system_call_found set n flags effects)

abbrev nothing_found : (set : Setting) (s : VgetrandomState) (effects : List Effect) →
    Option (HostFound set (ByNothing s) effects)
nothing_found set s effects = found_by (λ none. record {
  steps = [];
  outcome = record { ending = no_bytes; state = s; entries = [] };
  leads = record { steps_are = refl; outcome_is = refl };
  shows = none;
}) (no_steps effects)

-- ---- The attempts of a vgetrandom call

pub record IsRead (answer : SystemAnswer) : Type 0 where
  pub key : List ℕ
  pub visit : Option CpuPlace
  pub is : read key visit ≡ answer

abbrev read_found : (answer : SystemAnswer) → Option (IsRead answer)
read_found (read key visit) = Some (record { key = key; visit = visit; is = refl })
read_found (failed errno) = None

abbrev current_found : (set : Setting) (n c g : ℕ) (wiped : Point → Bool) (s : VgetrandomState) →
    ((state_left (wiped Start) s).generation == published_by g) ≡ true → (effects : List Effect) →
    Option (AttemptFound set n c s (looked g ∷ effects))
current_found set n c g wiped s current (looked h ∷ rest) = Some (record {
  steps = current_steps (published_by g) (wiped Start) (wiped Serve) (wiped End) (published_by h);
  attempt = _;
  rest = rest;
  tries = current_attempt n c (published_by g) (published_by h) (wiped Start) (wiped Serve) (wiped End) s current;
  shows = λ more shows. (g, _, refl, (refl, (h, rest, refl, (refl, shows))));
})
current_found set n c g wiped s current _ = None

abbrev keyed_with : (set : Setting) (n c g h : ℕ) (wiped : Point → Bool) (s : VgetrandomState) →
    ((state_left (wiped Start) s).generation == published_by g) ≡ false → (call rest : List Effect) →
    Option (AttemptFound set n c s (looked g ∷ call ++ looked h ∷ rest))
keyed_with set n c g h wiped s other call rest = found_both (λ form r. record {
  steps = keyed_steps (published_by g) r.key r.visit (wiped Start) (wiped Written) (wiped Serve) (wiped End)
      (published_by h);
  attempt = _;
  rest = rest;
  tries = keyed_attempt n c (published_by g) (published_by h) r.key r.visit (wiped Start) (wiped Written) (wiped Serve)
      (wiped End) s other;
  shows = λ more shows. (
    g,
    _,
    refl,
    (
      refl,
      record {
        call = call;
        rest = looked h ∷ rest;
        effects_are = refl;
        form = form;
        answers = r.is;
        goes_on = (h, rest, refl, (refl, shows));
      },
    ),
  );
}) (system_call_found set 32 0 call) (read_found (answer_after 0 call))

-- finds an attempt that reads a key. The attempt's system call has two looks, at most one visit of the base, and one
-- visit of a CPU
abbrev keyed_found : (set : Setting) (n c g : ℕ) (wiped : Point → Bool) (s : VgetrandomState) →
    ((state_left (wiped Start) s).generation == published_by g) ≡ false → (effects : List Effect) →
    Option (AttemptFound set n c s (looked g ∷ effects))
keyed_found set n c g wiped s other (looked a ∷ looked b ∷ at_cpu v ∷ looked h ∷ rest) =
    keyed_with set n c g h wiped s other (looked a ∷ looked b ∷ at_cpu v ∷ []) rest
keyed_found set n c g wiped s other (looked a ∷ looked b ∷ at_base r ∷ at_cpu v ∷ looked h ∷ rest) =
    keyed_with set n c g h wiped s other (looked a ∷ looked b ∷ at_base r ∷ at_cpu v ∷ []) rest
keyed_found set n c g wiped s other _ = None

abbrev attempt_found : (set : Setting) (n c : ℕ) (wiped : Point → Bool) (s : VgetrandomState) (effects : List Effect) →
    Option (AttemptFound set n c s effects)
attempt_found set n c wiped s (looked g ∷ effects) = by ((state_left (wiped Start) s).generation == published_by g) refl
  where
    by : (b : Bool) → ((state_left (wiped Start) s).generation == published_by g) ≡ b →
        Option (AttemptFound set n c s (looked g ∷ effects))
    by true e = current_found set n c g wiped s e effects
    by false e = keyed_found set n c g wiped s e effects
attempt_found set n c wiped s _ = None

-- finds the steps after an attempt: if the attempt ended with `holds`, no steps; if it ended with `outdated`, the steps
-- of the last argument
abbrev after_found : (set : Setting) (n flags : ℕ) (Outdated : ℕ → VgetrandomState → List HostStep → Outcome → Type 0)
    (end : AttemptEnd) (attempt : Attempt) (effects : List Effect) →
    Option (HostFound set (Outdated attempt.next_block attempt.state) effects) →
    Option (HostFound set (AfterAttempt n flags Outdated end attempt) effects)
after_found set n flags Outdated holds attempt effects again = found_by (λ none. record {
  steps = [];
  outcome = record { ending = by_batch attempt.out; state = state_after_call attempt.state; entries = [] };
  leads = record { steps_are = refl; outcome_is = refl };
  shows = none;
}) (no_steps effects)
after_found set n flags Outdated outdated attempt effects again = again
after_found set n flags Outdated not_keyed attempt effects again = None

abbrev attempt_and_rest : (set : Setting) (n flags c : ℕ) (s : VgetrandomState) (effects : List Effect)
    (Outdated : ℕ → VgetrandomState → List HostStep → Outcome → Type 0) (a : AttemptFound set n c s effects) →
    Option (HostFound set (Outdated a.attempt.next_block a.attempt.state) a.rest) →
    Option (HostFound set (AttemptAndRest n flags Outdated (IsAttempt n c s)) effects)
attempt_and_rest set n flags c s effects Outdated a again = found_by (λ r. record {
  steps = a.steps ++ r.steps;
  outcome = prefix_outcome a.attempt.entries r.outcome;
  leads = record {
    tried = a.steps;
    rest = r.steps;
    attempt = a.attempt;
    outcome_after = r.outcome;
    steps_are = refl;
    tries = a.tries;
    goes_on = r.leads;
    outcome_is = refl;
  };
  shows = a.shows r.steps r.shows;
}) (after_found set n flags Outdated a.attempt.end a.attempt a.rest again)

abbrev tried : {P : Type 0} {Q : Type 0} → Option P → (P → Option Q) → Option Q
tried (Some p) f = f p
tried None f = None

-- finds the second attempt. Acts happen only in the first attempt, so no point of the second attempt has a wipe
abbrev second_found : (set : Setting) (n flags c : ℕ) (s : VgetrandomState) (effects : List Effect) →
    Option (HostFound set (SecondAttempt n flags c s) effects)
second_found set n flags c s effects = tried (attempt_found set n c (λ p. false) s effects)
    (λ a. attempt_and_rest set n flags c s effects (AfterBoth n flags) a
    (system_found set n flags (state_after_call a.attempt.state) a.rest))

abbrev first_found : (set : Setting) (n flags : ℕ) (wiped : Point → Bool) (s : VgetrandomState) (effects : List Effect) →
    Option (HostFound set (FirstAttempt n flags s) effects)
first_found set n flags wiped s effects = tried (attempt_found set n 0 wiped s effects)
    (λ a. attempt_and_rest set n flags 0 s effects (SecondAttempt n flags) a
    (second_found set n flags a.attempt.next_block a.attempt.state a.rest))

-- ---- A whole vgetrandom call

abbrev published_found : (set : Setting) (n flags g : ℕ) (wiped : Point → Bool) (s : VgetrandomState)
    (effects : List Effect) →
    Option (HostFound set (FromPublished n flags s (published_by g)) effects)
published_found set n flags g wiped s effects =
    host_by_test (published_by g == 0) (system_found set n flags s effects)
    (host_by_test (n == 0) (nothing_found set s effects)
    (host_by_test s.in_use (system_found set n flags s effects)
    (first_found set n flags wiped (record s { in_use = true }) effects)))

abbrev look_found : (set : Setting) (n flags : ℕ) (wiped : Point → Bool) (s : VgetrandomState) (effects : List Effect) →
    Option (HostFound set (FromLook n flags s) effects)
look_found set n flags wiped s (looked g ∷ effects) = found_by (λ h. record {
  steps = publishes (published_by g) ∷ h.steps;
  outcome = h.outcome;
  leads = record { published = published_by g; rest = h.steps; steps_are = refl; goes_on = h.leads };
  shows = (g, effects, refl, (refl, h.shows));
}) (published_found set n flags g wiped s effects)
look_found set n flags wiped s _ = None

abbrev pub vgetrandom_found : (set : Setting) (n flags : ℕ) (wiped : Point → Bool) (s : VgetrandomState)
    (effects : List Effect) →
    Option (HostFound set (IsCall n flags s) effects)
vgetrandom_found set n flags wiped s effects =
    host_by_test (is_bad flags) (system_found set n flags s effects) (look_found set n flags wiped s effects)
