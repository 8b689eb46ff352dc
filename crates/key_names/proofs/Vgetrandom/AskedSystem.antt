-- If a system call ended a vread, then the line of the vread shows no data, or the bytes that its last visit serves.
use Rattle.std.proofs.Common.{◌≡◌, ℕ, ◌⊎◌, inl, inr, true, List, [], ◌∷◌, ◌++◌, refl, sym, subst, ap, ◌∙◌, append_assoc, append-nil, Option, Some, None}
use Rattle.std.specs.Prelude.{◌==◌}
use Rattle.key_names.specs.declared.errno.Errno.{Errno}
use Rattle.key_names.specs.Callers.Calls.{Setting}
use Rattle.key_names.specs.Kernel.Flags.{is_bad}
use Rattle.key_names.specs.Callers.Effects.{Effect, looked}
use Rattle.key_names.specs.Callers.Answers.{served_bytes, system_answer}
use Rattle.key_names.specs.Transcripts.SeenLine.{no_data, bytes_or_none}
use Rattle.key_names.specs.Kernel.VgetrandomState.{VgetrandomState}
use Rattle.key_names.specs.Kernel.Vgetrandom.{SystemAnswer, HostStep, publishes, system_call, at_point, AttemptEnd, holds, outdated, not_keyed, Attempt, by_system, IsAttempt, Outcome, BySystem, ByNothing, AfterAttempt, AttemptAndRest, AfterBoth, state_after_call, SecondAttempt, FirstAttempt, FromLook, IsCall}
use Rattle.key_names.specs.Callers.VreadSteps.{last_place, answer_with, answer_after, errno_of, Shows, system_line_shown}
use Rattle.key_names.proofs.Vgetrandom.CallsKeep.{match_cases}
use Rattle.key_names.proofs.Vgetrandom.KeyTakes.{place_takes, answer_takes}

-- the last of `steps` is a system call with this answer
pub record EndsAsked (answer : SystemAnswer) (steps : List HostStep) : Type 0 where
  before : List HostStep
  n : ℕ
  flags : ℕ
  steps_are : steps ≡ before ++ system_call n flags answer ∷ []

asked_after : (answer : SystemAnswer) (front rest steps : List HostStep) → steps ≡ front ++ rest →
    EndsAsked answer rest → EndsAsked answer steps
asked_after answer front rest steps is asked = record {
  before = front ++ asked.before;
  n = asked.n;
  flags = asked.flags;
  steps_are = is ∙ ap (λ xs. front ++ xs) asked.steps_are
      ∙ sym (append_assoc front asked.before (system_call asked.n asked.flags answer ∷ []));
}

module _ (answer : SystemAnswer) where
  pub asked : (n flags : ℕ) (s : VgetrandomState) (steps : List HostStep) (outcome : Outcome) →
      outcome.ending ≡ by_system answer → BySystem n flags s steps outcome → EndsAsked answer steps
  asked n flags s steps outcome is by =
      let ends : by_system by.answer ≡ by_system answer = sym (ap (λ (o : Outcome). o.ending) by.outcome_is) ∙ is in
      let same : by.answer ≡ answer = cc in
      record {
        before = [];
        n = n;
        flags = flags;
        steps_are = by.steps_are ∙ ap (λ a. system_call n flags a ∷ []) same;
      }

  pub tried_asked : (n flags : ℕ) (Outdated : ℕ → VgetrandomState → List HostStep → Outcome → Type 0)
      (Tried : List HostStep → Attempt → Type 0) (steps : List HostStep) (outcome : Outcome) →
      ((from : ℕ) (s : VgetrandomState) (rest : List HostStep) (after : Outcome) →
      after.ending ≡ by_system answer → Outdated from s rest after → EndsAsked answer rest) →
      outcome.ending ≡ by_system answer → AttemptAndRest n flags Outdated Tried steps outcome → EndsAsked answer steps
  tried_asked n flags Outdated Tried steps outcome goes_on is r =
      asked_after answer r.tried r.rest steps r.steps_are (go r.attempt.end r.goes_on)
    where
      ends : r.outcome_after.ending ≡ by_system answer
      ends = sym (ap (λ (o : Outcome). o.ending) r.outcome_is) ∙ is

      go : (end : AttemptEnd) → AfterAttempt n flags Outdated end r.attempt r.rest r.outcome_after →
          EndsAsked answer r.rest
      go holds by = let e = ap (λ (o : Outcome). o.ending) by.outcome_is in cc
      go outdated by = goes_on r.attempt.next_block r.attempt.state r.rest r.outcome_after ends by
      go not_keyed by = asked n flags (state_after_call r.attempt.state) r.rest r.outcome_after ends by

  first_asked : (n flags : ℕ) (s : VgetrandomState) (steps : List HostStep) (outcome : Outcome) →
      outcome.ending ≡ by_system answer → FirstAttempt n flags s steps outcome → EndsAsked answer steps
  first_asked n flags s steps outcome =
      tried_asked n flags (SecondAttempt n flags) (IsAttempt n 0 s) steps outcome
      (λ from v rest after. tried_asked n flags (AfterBoth n flags) (IsAttempt n from v) rest after
      (λ d w more last. asked n flags (state_after_call w) more last))

  call_asked : (n flags : ℕ) (s : VgetrandomState) (steps : List HostStep) (outcome : Outcome) →
      outcome.ending ≡ by_system answer → IsCall n flags s steps outcome → EndsAsked answer steps
  call_asked n flags s steps outcome ends is =
      match_cases (BySystem n flags s steps outcome) (FromLook n flags s steps outcome) (EndsAsked answer steps)
      (is_bad flags) (λ bad by. asked n flags s steps outcome ends by)
      (λ good look. asked_after answer (publishes look.published ∷ []) look.rest steps look.steps_are
      (match_cases (BySystem n flags s look.rest outcome) _ (EndsAsked answer look.rest) (look.published == 0)
      (λ unready by. asked n flags s look.rest outcome ends by)
      (λ is. match_cases (ByNothing s look.rest outcome) _ (EndsAsked answer look.rest) (n == 0)
      (λ none by. let e = ap (λ (o : Outcome). o.ending) by.outcome_is in cc)
      (λ some. match_cases (BySystem n flags s look.rest outcome)
      (FirstAttempt n flags (record s { in_use = true }) look.rest outcome) (EndsAsked answer look.rest) s.in_use
      (λ inside by. asked n flags s look.rest outcome ends by)
      (λ outside first. first_asked n flags (record s { in_use = true }) look.rest outcome ends first)))
      look.goes_on))
      is

  -- the effects of the line end with the effects of the system call
  record ShowsAsked (effects : List Effect) : Type 0 where
    before : List Effect
    call : List Effect
    flags : ℕ
    effects_are : effects ≡ before ++ call
    answers : answer ≡ answer_after flags call

  effects_after : (front rest effects : List Effect) → effects ≡ front ++ rest → ShowsAsked rest → ShowsAsked effects
  effects_after front rest effects is shows = record {
    before = front ++ shows.before;
    call = shows.call;
    flags = shows.flags;
    effects_are = is ∙ ap (λ xs. front ++ xs) shows.effects_are ∙ sym (append_assoc front shows.before shows.call);
    answers = shows.answers;
  }

  shows_asked : (set : Setting) (before : List HostStep) (n flags : ℕ) (effects : List Effect) →
      Shows set (before ++ system_call n flags answer ∷ []) effects → ShowsAsked effects
  shows_asked set [] n flags effects shows = record {
    before = [];
    call = shows.call;
    flags = flags;
    effects_are = shows.effects_are ∙ ap (λ xs. shows.call ++ xs) shows.goes_on ∙ append-nil shows.call;
    answers = shows.answers;
  }
  shows_asked set (publishes g ∷ before) n flags effects shows =
      effects_after (looked shows.0 ∷ []) shows.1 effects shows.2 (shows_asked set before n flags shows.1 (shows.3).1)
  shows_asked set (at_point point wiped ∷ before) n flags effects shows = shows_asked set before n flags effects shows
  shows_asked set (system_call k f other ∷ before) n flags effects shows =
      effects_after shows.call shows.rest effects shows.effects_are
      (shows_asked set before n flags shows.rest shows.goes_on)

  -- the line shows the bytes that its last visit serves, and the answer of the system call is from that visit
  pub record AskedShown (effects : List Effect) : Type 0 where
    pub shown : system_line_shown answer ≡ bytes_or_none (served_bytes effects)
    pub place : (c p : ℕ) → place_takes c p (last_place effects) ≡ answer_takes c p answer

  last_served : (before : List Effect) (d : Effect) (ds : List Effect) →
      served_bytes (before ++ d ∷ ds) ≡ served_bytes (d ∷ ds)
  last_served [] d ds = refl
  last_served (x ∷ []) d ds = refl
  last_served (x ∷ y ∷ before) d ds = last_served (y ∷ before) d ds

  last_visit : (before : List Effect) (d : Effect) (ds : List Effect) → last_place (before ++ d ∷ ds) ≡ last_place (d ∷ ds)
  last_visit [] d ds = refl
  last_visit (x ∷ []) d ds = refl
  last_visit (x ∷ y ∷ before) d ds = last_visit (y ∷ before) d ds

  abbrev pub ShowsOrNone : List Effect → Type 0
  ShowsOrNone effects = (system_line_shown answer ≡ no_data) ⊎ AskedShown effects

  answered : (before call : List Effect) (o : Option Errno) → answer ≡ answer_with o call →
      ShowsOrNone (before ++ call)
  answered before call (Some errno) is = inl (ap system_line_shown is)
  answered before [] None is = inl (ap system_line_shown is)
  answered before (d ∷ ds) None is = inr (record {
    shown = ap system_line_shown is ∙ ap bytes_or_none (sym (last_served before d ds));
    place = λ c p. ap (place_takes c p) (last_visit before d ds) ∙ sym (ap (answer_takes c p) is);
  })

  -- if the host's last step was a system call, the line shows no data, or the bytes that its last visit serves
  pub steps_shown : (set : Setting) (steps : List HostStep) (effects : List Effect) → EndsAsked answer steps →
      Shows set steps effects → ShowsOrNone effects
  steps_shown set steps effects e shows =
      let P : List HostStep → Type 0 = λ xs. Shows set xs effects in
      let a = shows_asked set e.before e.n e.flags effects (subst P e.steps_are shows) in
      let Q : List Effect → Type 0 = λ ds. ShowsOrNone ds in
      subst Q (sym a.effects_are) (answered a.before a.call (errno_of (system_answer a.flags a.call)) a.answers)

  pub asked_shown : (set : Setting) (n flags : ℕ) (s : VgetrandomState) (steps : List HostStep) (outcome : Outcome)
      (effects : List Effect) → outcome.ending ≡ by_system answer → IsCall n flags s steps outcome →
      Shows set steps effects → ShowsOrNone effects
  asked_shown set n flags s steps outcome effects ends is shows =
      steps_shown set steps effects (call_asked n flags s steps outcome ends is) shows
