-- The host's steps in a vgetrandom call have one of two shapes: without any point of a first attempt, or with the
-- points of a first attempt in order.
use Rattle.std.proofs.Common.{◌≡◌, ℕ, ◌≤◌, ◌⊎◌, inl, inr, Bool, true, false, Option, List, [], ◌∷◌, ◌++◌, refl, sym, ap, ◌∙◌, subst, arith}
use Rattle.std.specs.Prelude.{MatchBool, ◌==◌, if◌then◌else◌}
use Rattle.std.proofs.lemmas.Bool.{eqb-false}
use Rattle.key_names.specs.declared.errno.Errno.{Errno}
use Rattle.key_names.specs.declared.point.Point.TheVariants.{Start, Written, Serve, End}
use Rattle.key_names.specs.Kernel.Flags.{is_bad}
use Rattle.key_names.specs.Kernel.Vgetrandom.{CpuPlace, SystemAnswer, read, failed, HostStep, publishes, system_call, at_point, AttemptEnd, holds, outdated, Attempt, AtPoint, FromServe, AfterKeyRead, FromWritten, FromStart, Outcome, BySystem, AfterAttempt, SecondAttempt, FirstAttempt, ByNothing, FromPublished, FromLook, IsCall}
use Rattle.key_names.specs.Kernel.VgetrandomState.{VgetrandomState}
use Rattle.rng_core.specs.declared.vdso.attempt.Attempt.TheVariants.{Before, First}
use Rattle.caller_run.proofs.Orders.OwnSteps.{Quiet, later_quiet, LooksFirst}

-- `steps` are those of a second attempt and of the rest of the call
pub record NextAttempt (steps : List HostStep) : Type 0 where
  pub published : ℕ
  pub rest : List HostStep
  pub steps_are : steps ≡ publishes published ∷ rest
  pub quiet : Quiet First rest
  pub looks : LooksFirst rest

-- `steps` may come after a first attempt that copied bytes: there are none, or they begin with a second attempt
abbrev pub AfterPoint : List HostStep → Type 0
AfterPoint steps = (steps ≡ []) ⊎ NextAttempt steps

-- `steps` are those of a call from the point Serve of its first attempt on
pub record Copies (steps : List HostStep) : Type 0 where
  pub at_serve : Bool
  pub at_end : Bool
  pub published : ℕ
  pub rest : List HostStep
  pub steps_are : steps ≡ at_point Serve at_serve ∷ at_point End at_end ∷ publishes published ∷ rest
  pub following : AfterPoint rest

-- `steps` are those of a call after the point Written of its first attempt, if a new key was read
pub record Rekeys (steps : List HostStep) : Type 0 where
  pub key : List ℕ
  pub visit : Option CpuPlace
  pub rest : List HostStep
  pub steps_are : steps ≡ system_call 32 0 (read key visit) ∷ rest
  pub copies : Copies rest

-- `steps` are those of a call after the point Written of its first attempt, if the read of a new key failed: the failed
-- system call, and a last system call
pub record Fails (steps : List HostStep) : Type 0 where
  pub errno : Errno
  pub n : ℕ
  pub flags : ℕ
  pub answer : SystemAnswer
  pub steps_are : steps ≡ system_call 32 0 (failed errno) ∷ system_call n flags answer ∷ []

-- `steps` are those of a call from the point Written of its first attempt on
pub record Writes (steps : List HostStep) : Type 0 where
  pub at_written : Bool
  pub rest : List HostStep
  pub steps_are : steps ≡ at_point Written at_written ∷ rest
  pub keys : Rekeys rest ⊎ Fails rest

-- `steps` are those of a call that makes a first attempt
pub record Tries (steps : List HostStep) : Type 0 where
  pub found : ℕ
  pub ready : 1 ≤ found
  pub published : ℕ
  pub at_start : Bool
  pub rest : List HostStep
  pub steps_are : steps ≡ publishes found ∷ publishes published ∷ at_point Start at_start ∷ rest
  pub goes_on : Copies rest ⊎ Writes rest

-- `steps` are those of `attempt` from the point Serve on; the record also has how the attempt ended
record ServeSteps (steps : List HostStep) (attempt : Attempt) : Type 0 where
  pub at_serve : Bool
  pub at_end : Bool
  pub published : ℕ
  pub steps_are : steps ≡ at_point Serve at_serve ∷ at_point End at_end ∷ publishes published ∷ []
  pub held : Bool
  pub end_is : attempt.end ≡ (if held then holds else outdated)

abbrev end_of : Attempt → AttemptEnd
end_of attempt = attempt.end

module _ (n : ℕ) where
  serve_steps : (c : ℕ) (s : VgetrandomState) (steps : List HostStep) (attempt : Attempt) →
      AtPoint Serve (FromServe n c) s steps attempt → ServeSteps steps attempt
  serve_steps c s steps attempt k =
      let serve = k.goes_on in let end = serve.goes_on in let last = end.goes_on in record {
        at_serve = k.wiped;
        at_end = end.wiped;
        published = last.published;
        steps_are = k.steps_are ∙ ap (λ (l : List HostStep). at_point Serve k.wiped ∷ l) (end.steps_are
            ∙ ap (λ (l : List HostStep). at_point End end.wiped ∷ l) last.steps_are);
        held = _;
        end_is = ap end_of k.attempt_is ∙ ap end_of serve.attempt_is ∙ ap end_of end.attempt_is
            ∙ ap end_of last.attempt_is;
      }

  -- if `steps` are those of an attempt after its point Start, the first step of `steps ++ more` that the caller itself
  -- makes is a look
  start_looks : (c published : ℕ) (s : VgetrandomState) (steps more : List HostStep) (attempt : Attempt) →
      FromStart n c published s steps attempt → LooksFirst (steps ++ more)
  start_looks c published s steps more attempt k = go (s.generation == published) k
    where
      go : (b : Bool) → MatchBool b (AtPoint Serve (FromServe n c) s steps attempt)
          (AtPoint Written (FromWritten n c) (record s { generation = published }) steps attempt) →
          LooksFirst (steps ++ more)
      go true h = subst (λ (l : List HostStep). LooksFirst (l ++ more))
          (sym (serve_steps c s steps attempt h).steps_are) tt
      go false h =
          subst (λ (l : List HostStep). LooksFirst (l ++ more))
          (sym (h.steps_are ∙ ap (λ (l : List HostStep). at_point Written h.wiped ∷ l) h.goes_on.steps_are)) refl

  module _ (flags : ℕ) where
    next_attempt : (c : ℕ) (s : VgetrandomState) (steps : List HostStep) (outcome : Outcome) →
        SecondAttempt n flags c s steps outcome → NextAttempt steps
    next_attempt c s steps outcome k =
        let look = k.tries in let start = look.goes_on in
        let back = ap (λ (l : List HostStep). l ++ k.rest) (sym start.steps_are) in record {
          published = look.published;
          rest = look.rest ++ k.rest;
          steps_are = k.steps_are ∙ ap (λ (l : List HostStep). l ++ k.rest) look.steps_are;
          quiet = subst (Quiet First) back (refl, later_quiet (start.rest ++ k.rest));
          looks = subst LooksFirst back (start_looks c look.published _ start.rest k.rest start.attempt_after
              start.goes_on);
        }

    after_copy : (attempt : Attempt) (end : AttemptEnd) (held : Bool) (steps : List HostStep) (outcome : Outcome) →
        end ≡ (if held then holds else outdated) → AfterAttempt n flags (SecondAttempt n flags) end attempt steps
        outcome →
        AfterPoint steps
    after_copy attempt end true steps outcome is k =
        let h = subst (λ (e : AttemptEnd). AfterAttempt n flags (SecondAttempt n flags) e attempt steps outcome) is k in
        inl h.steps_are
    after_copy attempt end false steps outcome is k =
        let h = subst (λ (e : AttemptEnd). AfterAttempt n flags (SecondAttempt n flags) e attempt steps outcome) is k in
        inr (next_attempt attempt.next_block attempt.state steps outcome h)

    module _ (c : ℕ) (rest : List HostStep) (outcome : Outcome) where
      abbrev After : Attempt → Type 0
      After attempt = AfterAttempt n flags (SecondAttempt n flags) attempt.end attempt rest outcome

      copies : (s : VgetrandomState) (steps : List HostStep) (attempt whole : Attempt) → whole.end ≡ attempt.end →
          AtPoint Serve (FromServe n c) s steps attempt → After whole → Copies (steps ++ rest)
      copies s steps attempt whole same k after = let serve = serve_steps c s steps attempt k in record {
        at_serve = serve.at_serve;
        at_end = serve.at_end;
        published = serve.published;
        rest = rest;
        steps_are = ap (λ (l : List HostStep). l ++ rest) serve.steps_are;
        following = after_copy whole whole.end serve.held rest outcome (same ∙ serve.end_is) after;
      }

      keys : (answer : SystemAnswer) (s : VgetrandomState) (steps : List HostStep) (attempt whole : Attempt) →
          whole.end ≡ attempt.end → AfterKeyRead n c answer s steps attempt → After whole →
          Rekeys (system_call 32 0 answer ∷ steps ++ rest) ⊎ Fails (system_call 32 0 answer ∷ steps ++ rest)
      keys (read key visit) s steps attempt whole same k after = inl (record {
        key = key;
        visit = visit;
        rest = steps ++ rest;
        steps_are = refl;
        copies = copies _ steps k.attempt_after whole (same ∙ ap end_of k.attempt_is) k.goes_on after;
      })
      keys (failed errno) s steps attempt whole same k after =
          let h = subst (λ (e : AttemptEnd). AfterAttempt n flags (SecondAttempt n flags) e whole rest outcome)
          (same ∙ ap end_of k.attempt_is) after in
          inr (record {
            errno = errno;
            n = n;
            flags = flags;
            answer = h.answer;
            steps_are = ap (λ (l : List HostStep). system_call 32 0 (failed errno) ∷ l)
                (ap (λ (l : List HostStep). l ++ rest) k.steps_are ∙ h.steps_are);
          })

      from_start : (published : ℕ) (s : VgetrandomState) (steps : List HostStep) (attempt whole : Attempt) →
          whole.end ≡ attempt.end → FromStart n c published s steps attempt → After whole →
          Copies (steps ++ rest) ⊎ Writes (steps ++ rest)
      from_start published s steps attempt whole same k after = go (s.generation == published) k
        where
          go : (b : Bool) → MatchBool b (AtPoint Serve (FromServe n c) s steps attempt)
              (AtPoint Written (FromWritten n c) (record s { generation = published }) steps attempt) →
              Copies (steps ++ rest) ⊎ Writes (steps ++ rest)
          go true h = inl (copies s steps attempt whole same h after)
          go false h = let call = h.goes_on in inr (record {
            at_written = h.wiped;
            rest = system_call 32 0 call.answer ∷ call.rest ++ rest;
            steps_are = ap (λ (l : List HostStep). l ++ rest)
                (h.steps_are ∙ ap (λ (l : List HostStep). at_point Written h.wiped ∷ l) call.steps_are);
            keys = keys call.answer _ call.rest h.attempt_after whole (same ∙ ap end_of h.attempt_is) call.goes_on
                after;
          })

    first_attempt : (found : ℕ) (s : VgetrandomState) (steps : List HostStep) (outcome : Outcome) → 1 ≤ found →
        FirstAttempt n flags s steps outcome → Tries (publishes found ∷ steps)
    first_attempt found s steps outcome ready k = let look = k.tries in let start = look.goes_on in record {
      found = found;
      ready = ready;
      published = look.published;
      at_start = start.wiped;
      rest = start.rest ++ k.rest;
      steps_are = ap (λ (l : List HostStep). publishes found ∷ l) (k.steps_are ∙ ap (λ (l : List HostStep). l ++ k.rest)
          (look.steps_are ∙ ap (λ (l : List HostStep). publishes look.published ∷ l) start.steps_are));
      goes_on = from_start 0 k.rest k.outcome_after look.published _ start.rest start.attempt_after k.attempt
          (ap end_of start.attempt_is) start.goes_on k.goes_on;
    }

    system_quiet : (s : VgetrandomState) (steps : List HostStep) (outcome : Outcome) →
        BySystem n flags s steps outcome →
        Quiet Before steps
    system_quiet s steps outcome k = subst (Quiet Before) (sym k.steps_are) tt

    published_shape : (s : VgetrandomState) (found : ℕ) (steps : List HostStep) (outcome : Outcome) →
        FromPublished n flags s found steps outcome → Quiet Before steps ⊎ Tries (publishes found ∷ steps)
    published_shape s found steps outcome k = go (found == 0) (n == 0) s.in_use refl k
      where
        go : (a b c : Bool) → (found == 0) ≡ a → MatchBool a (BySystem n flags s steps outcome)
            (MatchBool b (ByNothing s steps outcome)
            (MatchBool c (BySystem n flags s steps outcome)
            (FirstAttempt n flags (record s { in_use = true }) steps outcome))) →
            Quiet Before steps ⊎ Tries (publishes found ∷ steps)
        go true b c zero h = inl (system_quiet s steps outcome h)
        go false true c some h = inl (subst (Quiet Before) (sym h.steps_are) tt)
        go false false true some h = inl (system_quiet s steps outcome h)
        go false false false some h =
            let ne = eqb-false found 0 some in
            inr (first_attempt found (record s { in_use = true }) steps outcome (omega (arith, ne)) h)

    -- the steps of each vgetrandom call have one of the two shapes: without a point of a first attempt (`Quiet`), or
    -- with these points in order (`Tries`)
    pub call_shape : (s : VgetrandomState) (steps : List HostStep) (outcome : Outcome) →
        IsCall n flags s steps outcome →
        Quiet Before steps ⊎ Tries steps
    call_shape s steps outcome k = go (is_bad flags) k
      where
        here : (look : List HostStep) → steps ≡ look → Quiet Before look ⊎ Tries look → Quiet Before steps ⊎ Tries steps
        here look e h = subst (λ (l : List HostStep). Quiet Before l ⊎ Tries l) (sym e) h

        go : (b : Bool) → MatchBool b (BySystem n flags s steps outcome) (FromLook n flags s steps outcome) →
            Quiet Before steps ⊎ Tries steps
        go true h = inl (system_quiet s steps outcome h)
        go false h =
            here (publishes h.published ∷ h.rest) h.steps_are (published_shape s h.published h.rest outcome h.goes_on)
