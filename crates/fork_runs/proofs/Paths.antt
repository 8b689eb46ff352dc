-- Take a vgetrandom call without flags whose state is never wiped, and whose system calls do not fail. If an attempt
-- finds a generation other than the state's, the call reaches each point of this attempt.
use Rattle.std.proofs.Common.{◌≡◌, ℕ, ◌<◌, ◌≤◌, Bool, true, false, List, [], ◌∷◌, ◌++◌, refl, subst, ap, ◌∙◌, arith, eqb-true}
use Rattle.std.specs.Bool.{⊤}
use Rattle.std.proofs.lemmas.Bool.{ne_eqb}
use Rattle.std.specs.Prelude.{◌==◌, MatchBool, if◌then◌else◌}
use Rattle.key_names.specs.declared.point.Point.{Point}
use Rattle.key_names.specs.declared.point.Point.TheVariants.{Start, Written, Serve, End}
use Rattle.key_names.specs.Kernel.BatchCopy.{block_after_copy, copy_bytes, state_after_copy}
use Rattle.key_names.specs.Kernel.Flags.{is_bad}
use Rattle.key_names.specs.Kernel.Vgetrandom.{SystemAnswer, read, failed, HostStep, publishes, system_call, at_point}
use Rattle.key_names.specs.Kernel.Vgetrandom.{holds, outdated, AttemptEnd, Attempt, Outcome, AtPoint, FromEnd, FromServe, FromWritten}
use Rattle.key_names.specs.Kernel.Vgetrandom.{FromStart, AfterKeyRead, IsAttempt, AfterAttempt, AttemptAndRest, BySystem}
use Rattle.key_names.specs.Kernel.Vgetrandom.{SecondAttempt, FirstAttempt, FromLook, IsCall}
use Rattle.key_names.specs.Kernel.VgetrandomState.{VgetrandomState, state_left, wiped_state}
use Rattle.key_names.proofs.Vgetrandom.CallsKeep.{match_cases}
use Rattle.key_names.proofs.Vgetrandom.CopiesKeep.{copy_keeps_generation}
use Rattle.vdso_state.specs.Places.{Climbs}
use Rattle.rng_core.specs.Hosted.{IsRead}
use Rattle.fork_runs.specs.Stretches.{AreServed, AreUnwiped}

-- in the steps the state is never wiped, and each system call with good flags reads its bytes
abbrev pub Smooth : List HostStep → Type 0
Smooth [] = ⊤
Smooth (publishes g ∷ steps) = Smooth steps
Smooth (system_call n flags answer ∷ steps) = (is_bad flags ≡ false → IsRead answer) × Smooth steps
Smooth (at_point point wiped ∷ steps) = (wiped ≡ false) × Smooth steps

pub smooth_of : (steps : List HostStep) → AreUnwiped steps → AreServed steps → Smooth steps
smooth_of [] unwiped served = tt
smooth_of (publishes g ∷ steps) unwiped served = smooth_of steps unwiped served.1
smooth_of (system_call n flags answer ∷ steps) unwiped served = (served.0, smooth_of steps unwiped served.1)
smooth_of (at_point point wiped ∷ steps) unwiped served = (unwiped.0, smooth_of steps unwiped.1 served.1)

smooth_both : (xs ys : List HostStep) → Smooth (xs ++ ys) → Smooth xs × Smooth ys
smooth_both [] ys all = (tt, all)
smooth_both (publishes g ∷ xs) ys all = smooth_both xs ys all
smooth_both (system_call n flags answer ∷ xs) ys all = let k = smooth_both xs ys all.1 in ((all.0, k.0), k.1)
smooth_both (at_point point wiped ∷ xs) ys all = let k = smooth_both xs ys all.1 in ((all.0, k.0), k.1)

pub smooth_then : (xs ys : List HostStep) → Smooth xs → Smooth ys → Smooth (xs ++ ys)
smooth_then [] ys a b = b
smooth_then (publishes g ∷ xs) ys a b = smooth_then xs ys a b
smooth_then (system_call n flags answer ∷ xs) ys a b = (a.0, smooth_then xs ys a.1 b)
smooth_then (at_point point wiped ∷ xs) ys a b = (a.0, smooth_then xs ys a.1 b)

-- the first of `steps` is the point `point`, which did not wipe the state `s`; the steps `rest` after it go on from `s`
record Passed (point : Point) (GoesOn : VgetrandomState → List HostStep → Attempt → Type 0) (s : VgetrandomState)
    (steps : List HostStep) (attempt : Attempt) : Type 0 where
  rest : List HostStep
  after : Attempt
  steps_are : steps ≡ at_point point false ∷ rest
  goes_on : GoesOn s rest after
  smooth : Smooth rest
  state_is : attempt.state ≡ after.state
  end_is : attempt.end ≡ after.end

passed : (point : Point) (GoesOn : VgetrandomState → List HostStep → Attempt → Type 0) (s : VgetrandomState)
    (steps : List HostStep) (attempt : Attempt) → AtPoint point GoesOn s steps attempt → Smooth steps →
    Passed point GoesOn s steps attempt
passed point GoesOn s steps attempt k smooth =
    let here : (k.wiped ≡ false) × Smooth k.rest = subst Smooth k.steps_are smooth in record {
      rest = k.rest;
      after = k.attempt_after;
      steps_are = k.steps_are ∙ ap (λ (w : Bool). at_point point w ∷ k.rest) here.0;
      goes_on = subst (λ (w : Bool). GoesOn (state_left w s) k.rest k.attempt_after) here.0 k.goes_on;
      smooth = here.1;
      state_is = ap (λ (a : Attempt). a.state) k.attempt_is;
      end_is = ap (λ (a : Attempt). a.end) k.attempt_is;
    }

-- how an attempt on a state of `generation` ends, if its last look found `found`
abbrev end_by : ℕ → ℕ → AttemptEnd
end_by generation found = if generation == found then holds else outdated

-- from some point of an attempt on, the attempt's steps are `front`, and then the attempt's last look
record Left (front : List HostStep) (s : VgetrandomState) (steps : List HostStep) (attempt : Attempt) : Type 0 where
  found : ℕ
  steps_are : steps ≡ front ++ publishes found ∷ []
  generation_is : attempt.state.generation ≡ s.generation
  end_is : attempt.end ≡ end_by s.generation found

serving : (n c : ℕ) (s : VgetrandomState) (steps : List HostStep) (attempt : Attempt) →
    FromServe n c s steps attempt → Smooth steps → Left (at_point End false ∷ []) s steps attempt
serving n c s steps attempt k smooth =
    let p = passed End (FromEnd (copy_bytes s c n) (block_after_copy s c n)) (state_after_copy s c n) steps
    k.attempt_after k.goes_on smooth in
    let last = p.goes_on in
    let same = copy_keeps_generation s c n in record {
      found = last.published;
      steps_are = p.steps_are ∙ ap (λ (l : List HostStep). at_point End false ∷ l) last.steps_are;
      generation_is = ap (λ (a : Attempt). a.state.generation) k.attempt_is
          ∙ ap (λ (t : VgetrandomState). t.generation) p.state_is
          ∙ ap (λ (a : Attempt). a.state.generation) last.attempt_is ∙ same;
      end_is = ap (λ (a : Attempt). a.end) k.attempt_is ∙ p.end_is ∙ ap (λ (a : Attempt). a.end) last.attempt_is
          ∙ ap (λ (g : ℕ). end_by g last.published) same;
    }

keying : (n c : ℕ) (answer : SystemAnswer) (s : VgetrandomState) (steps : List HostStep) (attempt : Attempt) →
    IsRead answer → AfterKeyRead n c answer s steps attempt → Smooth steps →
    Left (at_point Serve false ∷ at_point End false ∷ []) s steps attempt
keying n c (read key visit) s steps attempt ok k smooth =
    let keyed : VgetrandomState = record s { key = key; pos = 96 } in
    let p = passed Serve (FromServe n c) keyed steps k.attempt_after k.goes_on smooth in
    let last = serving n c keyed p.rest p.after p.goes_on p.smooth in record {
      found = last.found;
      steps_are = p.steps_are ∙ ap (λ (l : List HostStep). at_point Serve false ∷ l) last.steps_are;
      generation_is = ap (λ (a : Attempt). a.state.generation) k.attempt_is
          ∙ ap (λ (t : VgetrandomState). t.generation) p.state_is ∙ last.generation_is;
      end_is = ap (λ (a : Attempt). a.end) k.attempt_is ∙ p.end_is ∙ last.end_is;
    }
keying n c (failed errno) s steps attempt ok k smooth = absurd ok

-- the host's steps in an attempt that takes a new key, and then the steps `more` after the attempt
abbrev pub attempt_steps : ℕ → SystemAnswer → ℕ → List HostStep → List HostStep
attempt_steps published answer found more =
    publishes published ∷ at_point Start false ∷ at_point Written false ∷ system_call 32 0 answer
    ∷ at_point Serve false ∷ at_point End false ∷ publishes found ∷ more

record WholeAttempt (steps : List HostStep) (attempt : Attempt) : Type 0 where
  published : ℕ
  answer : SystemAnswer
  found : ℕ
  steps_are : steps ≡ attempt_steps published answer found []
  generation_is : attempt.state.generation ≡ published
  end_is : attempt.end ≡ end_by published found

at_false : (P Q : Type 0) (b : Bool) → b ≡ false → MatchBool b P Q → Q
at_false P Q b is h = subst (λ (x : Bool). MatchBool x P Q) is h

whole_attempt : (n c : ℕ) (s : VgetrandomState) (steps : List HostStep) (attempt : Attempt)
    (k : IsAttempt n c s steps attempt) → (s.generation == k.published) ≡ false → Smooth steps →
    WholeAttempt steps attempt
whole_attempt n c s steps attempt k other smooth =
    let written : VgetrandomState = record s { generation = k.published } in
    let start = passed Start (FromStart n c k.published) s k.rest attempt k.goes_on (subst Smooth k.steps_are smooth) in
    let fresh = at_false (AtPoint Serve (FromServe n c) s start.rest start.after)
    (AtPoint Written (FromWritten n c) written start.rest start.after) (s.generation == k.published) other start.goes_on
    in
    let p = passed Written (FromWritten n c) written start.rest start.after fresh start.smooth in
    let f = p.goes_on in
    let call : (is_bad 0 ≡ false → IsRead f.answer) × Smooth f.rest = subst Smooth f.steps_are p.smooth in
    let last = keying n c f.answer written f.rest p.after (call.0 refl) f.goes_on call.1 in record {
      published = k.published;
      answer = f.answer;
      found = last.found;
      steps_are = k.steps_are ∙ ap (λ (l : List HostStep). publishes k.published ∷ l) (start.steps_are
          ∙ ap (λ (l : List HostStep). at_point Start false ∷ l) (p.steps_are
          ∙ ap (λ (l : List HostStep). at_point Written false ∷ l) (f.steps_are
          ∙ ap (λ (l : List HostStep). system_call 32 0 f.answer ∷ l) last.steps_are)));
      generation_is = ap (λ (t : VgetrandomState). t.generation) start.state_is
          ∙ ap (λ (t : VgetrandomState). t.generation) p.state_is ∙ last.generation_is;
      end_is = start.end_is ∙ p.end_is ∙ last.end_is;
    }

-- an attempt that takes a new key. If it found another generation at its end, further steps follow
pub record Tried (Outdated : ℕ → VgetrandomState → List HostStep → Outcome → Type 0) (steps : List HostStep)
    : Type 0 where
  pub published : ℕ
  pub answer : SystemAnswer
  pub found : ℕ
  pub more : List HostStep
  pub steps_are : steps ≡ attempt_steps published answer found more
  pub goes_on : (published == found) ≡ false → (c : ℕ) × (s : VgetrandomState) × (after : Outcome)
      × (s.generation ≡ published) × Outdated c s more after

pub tries : (n c : ℕ) (s : VgetrandomState) (Outdated : ℕ → VgetrandomState → List HostStep → Outcome → Type 0)
    (steps : List HostStep) (outcome : Outcome) (low high : ℕ) → s.generation < low → Climbs low high steps →
    Smooth steps → AttemptAndRest n 0 Outdated (IsAttempt n c s) steps outcome → Tried Outdated steps
tries n c s Outdated steps outcome low high below climbs smooth k =
    let parts = smooth_both k.tried k.rest (subst Smooth k.steps_are smooth) in
    let looks : steps ≡ publishes k.tries.published ∷ (k.tries.rest ++ k.rest) =
    k.steps_are ∙ ap (λ (l : List HostStep). l ++ k.rest) k.tries.steps_are in
    let above : low ≤ k.tries.published = (subst (Climbs low high) looks climbs).0 in
    let other = ne_eqb s.generation k.tries.published (λ same. omega arith) in
    let w = whole_attempt n c s k.tried k.attempt k.tries other parts.0 in record {
      published = w.published;
      answer = w.answer;
      found = w.found;
      more = k.rest;
      steps_are = k.steps_are ∙ ap (λ (l : List HostStep). l ++ k.rest) w.steps_are;
      goes_on = λ differs.
          let ends : k.attempt.end ≡ outdated = w.end_is ∙ ap (λ (b : Bool). if b then holds else outdated) differs in (
            k.attempt.next_block,
            k.attempt.state,
            k.outcome_after,
            w.generation_is,
            subst (λ (e : AttemptEnd). AfterAttempt n 0 Outdated e k.attempt k.rest k.outcome_after) ends k.goes_on,
          );
    }

-- the host's steps in a call for one byte or more on a wiped state and a ready core: a look, and then a first attempt,
-- which takes a new key
pub record FirstTried (n : ℕ) (steps : List HostStep) : Type 0 where
  pub looked : ℕ
  pub rest : List HostStep
  pub looks : steps ≡ publishes looked ∷ rest
  pub tried : Tried (SecondAttempt n 0) rest

module _ (n : ℕ) (some : 1 ≤ n) (low high : ℕ) (ready : 1 ≤ low) (steps : List HostStep) (outcome : Outcome)
    (climbs : Climbs low high steps) (smooth : Smooth steps) where
  from_look : FromLook n 0 wiped_state steps outcome → FirstTried n steps
  from_look k =
      let up : (low ≤ k.published) × Climbs k.published high k.rest = subst (Climbs low high) k.steps_are climbs in
      let first : FirstAttempt n 0 (record wiped_state { in_use = true }) k.rest outcome =
      match_cases _ _ _ (k.published == 0)
      (λ none _. let e = eqb-true k.published 0 none in let a = up.0 in absurd (omega arith))
      (λ _ m. match_cases _ _ _ (n == 0) (λ none _. let e = eqb-true n 0 none in absurd (omega arith)) (λ _ l. l) m)
      k.goes_on in record {
        looked = k.published;
        rest = k.rest;
        looks = k.steps_are;
        tried = tries n 0 (record wiped_state { in_use = true }) (SecondAttempt n 0) k.rest outcome k.published high
            (let a = up.0 in omega arith) up.1 (subst Smooth k.steps_are smooth) first;
      }

  pub first_tried : IsCall n 0 wiped_state steps outcome → FirstTried n steps
  first_tried k = match_cases (BySystem n 0 wiped_state steps outcome) (FromLook n 0 wiped_state steps outcome)
      (FirstTried n steps) (is_bad 0) (λ bad _. absurd (cc bad)) (λ _ look. from_look look) k
