-- If the old state's generation and each published generation are at most `top`, the state's generation after a
-- vgetrandom call is at most `top` too. Only a call for no bytes ends as `no_bytes`.
use Rattle.std.proofs.Common.{◌≡◌, ℕ, ◌≤◌, Bool, true, false, List, [], ◌∷◌, ◌++◌, refl, sym, ap, ◌∙◌, subst, arith}
use Rattle.std.specs.Prelude.{MatchBool, ◌==◌, ⊤}
use Rattle.std.proofs.lemmas.Bool.{eqb-true}
use Rattle.key_names.specs.declared.point.Point.{Point}
use Rattle.key_names.specs.declared.point.Point.TheVariants.{Start, Written, Serve, End}
use Rattle.key_names.specs.Kernel.Flags.{is_bad}
use Rattle.key_names.specs.Kernel.BatchCopy.{state_after_copy, copy_bytes, block_after_copy}
use Rattle.key_names.proofs.Vgetrandom.CopiesKeep.{copy_keeps_generation}
use Rattle.key_names.specs.Kernel.VgetrandomState.{VgetrandomState, state_left}
use Rattle.key_names.specs.Kernel.Vgetrandom.{SystemAnswer, read, failed, HostStep, publishes, system_call, at_point, Attempt, AttemptEnd, holds, outdated, not_keyed, AtPoint, FromEnd, FromServe, AfterKeyRead, FromWritten, FromStart, IsAttempt, no_bytes, by_batch, by_system, Outcome, BySystem, ByBatch, AfterAttempt, AttemptAndRest, AfterBoth, SecondAttempt, FirstAttempt, ByNothing, FromPublished, FromLook, IsCall}

-- each published generation is at most `top`
abbrev pub PublishesUpTo : ℕ → List HostStep → Type 0
PublishesUpTo top [] = ⊤
PublishesUpTo top (publishes g ∷ steps) = (g ≤ top) × PublishesUpTo top steps
PublishesUpTo top (system_call n flags answer ∷ steps) = PublishesUpTo top steps
PublishesUpTo top (at_point point wiped ∷ steps) = PublishesUpTo top steps

pub up_to_front : (top : ℕ) (xs ys : List HostStep) → PublishesUpTo top (xs ++ ys) → PublishesUpTo top xs
up_to_front top [] ys h = tt
up_to_front top (publishes g ∷ xs) ys h = (h.0, up_to_front top xs ys h.1)
up_to_front top (system_call n flags answer ∷ xs) ys h = up_to_front top xs ys h
up_to_front top (at_point point wiped ∷ xs) ys h = up_to_front top xs ys h

pub up_to_rest : (top : ℕ) (xs ys : List HostStep) → PublishesUpTo top (xs ++ ys) → PublishesUpTo top ys
up_to_rest top [] ys h = h
up_to_rest top (publishes g ∷ xs) ys h = up_to_rest top xs ys h.1
up_to_rest top (system_call n flags answer ∷ xs) ys h = up_to_rest top xs ys h
up_to_rest top (at_point point wiped ∷ xs) ys h = up_to_rest top xs ys h

-- a call for `n` bytes left a generation of at most `top`, and ended as `no_bytes` only if `n` is 0
pub record EndsWell (top n : ℕ) (outcome : Outcome) : Type 0 where
  pub low : outcome.state.generation ≤ top
  pub none : outcome.ending ≡ no_bytes → n ≡ 0

module _ (top : ℕ) where
  abbrev Low : VgetrandomState → Type 0
  Low s = s.generation ≤ top

  abbrev UpTo : List HostStep → Type 0
  UpTo steps = PublishesUpTo top steps

  low_left : (wiped : Bool) (s : VgetrandomState) → Low s → Low (state_left wiped s)
  low_left true s h = omega arith
  low_left false s h = h

  point_low : (point : Point) (GoesOn : VgetrandomState → List HostStep → Attempt → Type 0)
      (goes : (s : VgetrandomState) (steps : List HostStep) (attempt : Attempt) → Low s → UpTo steps →
      GoesOn s steps attempt → Low attempt.state)
      (s : VgetrandomState) (steps : List HostStep) (attempt : Attempt) → Low s → UpTo steps →
      AtPoint point GoesOn s steps attempt → Low attempt.state
  point_low point GoesOn goes s steps attempt low upto f =
      let after = goes (state_left f.wiped s) f.rest f.attempt_after (low_left f.wiped s low)
      (subst UpTo f.steps_are upto) f.goes_on in
      let e = ap (λ (a : Attempt). a.state.generation) f.attempt_is in omega arith

  end_low : (out : List ℕ) (c : ℕ) (s : VgetrandomState) (steps : List HostStep) (attempt : Attempt) → Low s →
      UpTo steps → FromEnd out c s steps attempt → Low attempt.state
  end_low out c s steps attempt low upto f = let e = ap (λ (a : Attempt). a.state.generation) f.attempt_is in
      omega arith

  serve_low : (n c : ℕ) (s : VgetrandomState) (steps : List HostStep) (attempt : Attempt) → Low s → UpTo steps →
      FromServe n c s steps attempt → Low attempt.state
  serve_low n c s steps attempt low upto f =
      let same = copy_keeps_generation s c n in
      let after = point_low End (FromEnd (copy_bytes s c n) (block_after_copy s c n))
      (end_low (copy_bytes s c n) (block_after_copy s c n))
      (state_after_copy s c n) steps f.attempt_after (omega arith) upto f.goes_on in
      let e = ap (λ (a : Attempt). a.state.generation) f.attempt_is in omega arith

  key_low : (n c : ℕ) (answer : SystemAnswer) (s : VgetrandomState) (steps : List HostStep) (attempt : Attempt) →
      Low s → UpTo steps → AfterKeyRead n c answer s steps attempt → Low attempt.state
  key_low n c (read key visit) s steps attempt low upto f =
      let after = point_low Serve (FromServe n c) (serve_low n c) (record s { key = key; pos = 96 }) steps
      f.attempt_after low upto f.goes_on in
      let e = ap (λ (a : Attempt). a.state.generation) f.attempt_is in omega arith
  key_low n c (failed errno) s steps attempt low upto f = let e =
      ap (λ (a : Attempt). a.state.generation) f.attempt_is in omega arith

  written_low : (n c : ℕ) (s : VgetrandomState) (steps : List HostStep) (attempt : Attempt) → Low s → UpTo steps →
      FromWritten n c s steps attempt → Low attempt.state
  written_low n c s steps attempt low upto f = key_low n c f.answer s f.rest attempt low (subst UpTo f.steps_are upto)
      f.goes_on

  start_low : (n c published : ℕ) → published ≤ top →
      (s : VgetrandomState) (steps : List HostStep) (attempt : Attempt) → Low s → UpTo steps →
      FromStart n c published s steps attempt → Low attempt.state
  start_low n c published below s steps attempt low upto f = go (s.generation == published) f
    where
      go : (b : Bool) → MatchBool b (AtPoint Serve (FromServe n c) s steps attempt)
          (AtPoint Written (FromWritten n c) (record s { generation = published }) steps attempt) → Low attempt.state
      go true f = point_low Serve (FromServe n c) (serve_low n c) s steps attempt low upto f
      go false f = point_low Written (FromWritten n c) (written_low n c) (record s { generation = published }) steps
          attempt below upto f

  attempt_low : (n c : ℕ) (s : VgetrandomState) (steps : List HostStep) (attempt : Attempt) → Low s → UpTo steps →
      IsAttempt n c s steps attempt → Low attempt.state
  attempt_low n c s steps attempt low upto f = let u = subst UpTo f.steps_are upto in
      point_low Start (FromStart n c f.published) (start_low n c f.published u.0) s f.rest attempt low u.1 f.goes_on

  system_ends : (n flags : ℕ) (s : VgetrandomState) (steps : List HostStep) (outcome : Outcome) → Low s →
      BySystem n flags s steps outcome → EndsWell top n outcome
  system_ends n flags s steps outcome low f = record {
    low = let e = ap (λ (o : Outcome). o.state.generation) f.outcome_is in omega arith;
    none = λ e. let g : by_system f.answer ≡ no_bytes = sym (ap (λ (o : Outcome). o.ending) f.outcome_is) ∙ e in
        absurd (cc g);
  }

  batch_ends : (n : ℕ) (out : List ℕ) (s : VgetrandomState) (steps : List HostStep) (outcome : Outcome) → Low s →
      ByBatch out s steps outcome → EndsWell top n outcome
  batch_ends n out s steps outcome low f = record {
    low = let e = ap (λ (o : Outcome). o.state.generation) f.outcome_is in omega arith;
    none = λ e. let g : by_batch out ≡ no_bytes = sym (ap (λ (o : Outcome). o.ending) f.outcome_is) ∙ e in
        absurd (cc g);
  }

  module _ (n flags : ℕ) (IfOutdated : ℕ → VgetrandomState → List HostStep → Outcome → Type 0)
      (goes : (c : ℕ) (s : VgetrandomState) (steps : List HostStep) (outcome : Outcome) → Low s → UpTo steps →
      IfOutdated c s steps outcome → EndsWell top n outcome) where
    after_ends : (end : AttemptEnd) (attempt : Attempt) (steps : List HostStep) (outcome : Outcome) →
        Low attempt.state → UpTo steps → AfterAttempt n flags IfOutdated end attempt steps outcome →
        EndsWell top n outcome
    after_ends holds attempt steps outcome low upto f = batch_ends n attempt.out attempt.state steps outcome low f
    after_ends outdated attempt steps outcome low upto f =
        goes attempt.next_block attempt.state steps outcome low upto f
    after_ends not_keyed attempt steps outcome low upto f =
        system_ends n flags (record attempt.state { in_use = false }) steps outcome low f

    rest_ends : (c : ℕ) (s : VgetrandomState) (steps : List HostStep) (outcome : Outcome) → Low s → UpTo steps →
        AttemptAndRest n flags IfOutdated (IsAttempt n c s) steps outcome → EndsWell top n outcome
    rest_ends c s steps outcome low upto f =
        let u : UpTo (f.tried ++ f.rest) = subst UpTo f.steps_are upto in
        let tried = attempt_low n c s f.tried f.attempt low (up_to_front top f.tried f.rest u) f.tries in
        let after = after_ends f.attempt.end f.attempt f.rest f.outcome_after tried (up_to_rest top f.tried f.rest u)
        f.goes_on in record {
          low = let e = ap (λ (o : Outcome). o.state.generation) f.outcome_is in let h = after.low in omega arith;
          none = λ e. after.none (sym (ap (λ (o : Outcome). o.ending) f.outcome_is) ∙ e);
        }

  both_end : (n flags c : ℕ) (s : VgetrandomState) (steps : List HostStep) (outcome : Outcome) → Low s → UpTo steps →
      AfterBoth n flags c s steps outcome → EndsWell top n outcome
  both_end n flags c s steps outcome low upto f = system_ends n flags (record s { in_use = false }) steps outcome low f

  second_ends : (n flags c : ℕ) (s : VgetrandomState) (steps : List HostStep) (outcome : Outcome) → Low s →
      UpTo steps → SecondAttempt n flags c s steps outcome → EndsWell top n outcome
  second_ends n flags c s steps outcome low upto f =
      rest_ends n flags (AfterBoth n flags) (both_end n flags) c s steps outcome low upto f

  nothing_ends : (n : ℕ) (s : VgetrandomState) (steps : List HostStep) (outcome : Outcome) → n ≡ 0 → Low s →
      ByNothing s steps outcome → EndsWell top n outcome
  nothing_ends n s steps outcome zero low f = record {
    low = let e = ap (λ (o : Outcome). o.state.generation)
        f.outcome_is in omega arith;
    none = λ e. zero;
  }

  published_ends : (n flags : ℕ) (s : VgetrandomState) (published : ℕ) (steps : List HostStep) (outcome : Outcome) →
      Low s → UpTo steps → FromPublished n flags s published steps outcome → EndsWell top n outcome
  published_ends n flags s published steps outcome low upto f = go (published == 0) f
    where
      used : (b : Bool) → MatchBool b (BySystem n flags s steps outcome)
          (FirstAttempt n flags (record s { in_use = true }) steps outcome) → EndsWell top n outcome
      used true f = system_ends n flags s steps outcome low f
      used false f = rest_ends n flags (SecondAttempt n flags) (second_ends n flags) 0 (record s { in_use = true })
          steps outcome low upto f

      wanted : (b : Bool) → (n == 0) ≡ b → MatchBool b (ByNothing s steps outcome)
          (MatchBool s.in_use (BySystem n flags s steps outcome)
          (FirstAttempt n flags (record s { in_use = true }) steps outcome)) → EndsWell top n outcome
      wanted true e f = nothing_ends n s steps outcome (eqb-true n 0 e) low f
      wanted false e f = used s.in_use f

      go : (b : Bool) → MatchBool b (BySystem n flags s steps outcome)
          (MatchBool (n == 0) (ByNothing s steps outcome)
          (MatchBool s.in_use (BySystem n flags s steps outcome)
          (FirstAttempt n flags (record s { in_use = true }) steps outcome))) → EndsWell top n outcome
      go true f = system_ends n flags s steps outcome low f
      go false f = wanted (n == 0) refl f

  pub call_ends : (n flags : ℕ) (s : VgetrandomState) (steps : List HostStep) (outcome : Outcome) →
      s.generation ≤ top → PublishesUpTo top steps → IsCall n flags s steps outcome → EndsWell top n outcome
  call_ends n flags s steps outcome low upto f = go (is_bad flags) f
    where
      go : (b : Bool) → MatchBool b (BySystem n flags s steps outcome) (FromLook n flags s steps outcome) →
          EndsWell top n outcome
      go true f = system_ends n flags s steps outcome low f
      go false f = let u = subst UpTo f.steps_are upto in
          published_ends n flags s f.published f.rest outcome low u.1 f.goes_on
