-- The steps of an attempt, from one of its points to the next or to the end of the call.
use Rattle.std.proofs.Common.{◌≡◌, ◌≢◌, ℕ, ◌≤◌, Bool, false, List, [], ◌∷◌, ◌++◌, refl, sym, subst, ◌∙◌, ap, inl, inr, Ok, Err, arith}
use Rattle.std.specs.Prelude.{Result, ◌==◌, if◌then◌else◌}
use Rattle.std.proofs.lemmas.Bool.{eq-eqb}
use Rattle.std.proofs.lemmas.Bool.Decides.{eqb_tells}
use Rattle.key_names.specs.declared.errno.Errno.{Errno}
use Rattle.key_names.specs.declared.point.Point.{Point}
use Rattle.key_names.specs.declared.point.Point.TheVariants.{Start, Written, Serve, End}
use Rattle.key_names.specs.Kernel.VgetrandomState.{VgetrandomState}
use Rattle.key_names.specs.Kernel.BatchCopy.{copy_bytes, state_after_copy, block_after_copy, copy_entries}
use Rattle.key_names.specs.Kernel.Vgetrandom.{SystemAnswer, read, failed, HostStep, publishes, system_call, Attempt, holds, outdated, not_keyed, prefix_outcome, by_batch, by_system, rekey_entry, AtPoint, FromEnd, FromServe, FromWritten, FromStart, AfterAttempt, BySystem, state_after_call}
use Rattle.key_names.specs.Callers.VreadSteps.{points_of}
use Rattle.key_names.proofs.Vgetrandom.Attempts.{match_true, match_false}
use Rattle.vdso_state.specs.declared.outcome.VEnd.{VEnd}
use Rattle.vdso_state.specs.declared.outcome.VEnd.TheVariants.{Batch, System}
use Rattle.vdso_state.specs.declared.place.Turn.{Turn}
use Rattle.vdso_state.specs.declared.place.Turn.TheVariants.{First, Second}
use Rattle.vdso_state.specs.declared.place.Place.{Place}
use Rattle.vdso_state.specs.declared.place.Came.TheVariants.{At, Ended}
use Rattle.vdso_state.specs.Host.{Doings, DoesAll, IsAnswer, KeyIsRead}
use Rattle.vdso_state.specs.Call.{Finish, EndsAsAnswered}
use Rattle.vdso_state.specs.Places.{IfOutdated, RestOf, FromPoint, AfterPlace, Climbs, Ends, CameTo}
use Rattle.vdso_state.proofs.Leading.{does_append, climbs_append, points_append, in_call}

pub ne-eqb : (a b : ℕ) → a ≢ b → (a == b) ≡ false
ne-eqb a b other = elim (eqb_tells a b) [ inl same ↦ absurd (other same.1) | inr differs ↦ differs.0 ]

ends_ok : (answer : SystemAnswer) (buf : List ℕ) → IsAnswer answer (Ok tt) buf → EndsAsAnswered answer (Ok System) buf
ends_ok (read bytes visit) buf is = (refl, is.1)
ends_ok (failed errno) buf is = cc

ends_err : (answer : SystemAnswer) (errno : Errno) (buf : List ℕ) → IsAnswer answer (Err errno) buf →
    EndsAsAnswered answer (Err errno) buf
ends_err (read bytes visit) errno buf is = cc
ends_err (failed why) errno buf is = cc

-- if the read of a new key failed with `errno`, `KeyIsRead` holds for `s` with generation 0 and with the key `buf`,
-- which is the buffer after the system call
pub key_not_read : (answer : SystemAnswer) (errno : Errno) (buf : List ℕ) (s : VgetrandomState) →
    IsAnswer answer (Err errno) buf →
    KeyIsRead answer (Err errno) s (record s { key = buf; generation = 0 })
key_not_read (read bytes visit) errno buf s answers = cc
key_not_read (failed why) errno buf s answers = (answers, (buf, refl))

no_error : (errno : Errno) → (let done : Result (Unit {0}) Errno = Ok tt in done ≡ Err errno) → ⊥
no_error errno same = cc

-- an attempt that copied `out`, left the state `s` and the next block `c`, and ended when the published generation was
-- not the generation of `s`
abbrev outdated_attempt : List ℕ → ℕ → VgetrandomState → Attempt
outdated_attempt out c s = record { out = out; state = s; next_block = c; entries = []; end = outdated }

ended_outdated : (out : List ℕ) (c e : ℕ) (s : VgetrandomState) → e ≢ s.generation →
    FromEnd out c s (publishes e ∷ []) (outdated_attempt out c s)
ended_outdated out c e s other = record {
  published = e;
  steps_are = refl;
  attempt_is = ap (λ (b : Bool). record {
    out = out;
    state = s;
    next_block = c;
    entries = [];
    end = if b then holds else outdated;
  }) (sym (ne-eqb s.generation e (λ same. other (sym same))));
}

module _ {H : Type 0} (host : Doings H) (floor : H → ℕ) where
  -- if the host answers a system call for `n` bytes with `answer`, the vgetrandom call ends with the result and the
  -- buffer of this answer
  asked : (n flags : ℕ) (s : VgetrandomState) (h last : H) (answer : SystemAnswer) (result : Result VEnd Errno)
      (buf : List ℕ) →
      EndsAsAnswered answer result buf → host.answers_as h n flags answer last → floor h ≤ floor last →
      Ends host floor (BySystem n flags s) h last (record { state = s; result = result; buf = buf })
  asked n flags s h last answer result buf ends answers more = record {
    runs = record {
      steps = system_call n flags answer ∷ [];
      outcome = record { ending = by_system answer; state = s; entries = [] };
      does = (last, answers, refl);
      relates = record { answer = answer; steps_are = refl; outcome_is = refl };
      state = refl;
      ends = ends;
    };
    climbs = more;
  }

  pub system_read : (n flags : ℕ) (s : VgetrandomState) (h last : H) (answer : SystemAnswer) (buf : List ℕ) →
      IsAnswer answer (Ok tt) buf → host.answers_as h n flags answer last → floor h ≤ floor last →
      Ends host floor (BySystem n flags s) h last (record { state = s; result = Ok System; buf = buf })
  system_read n flags s h last answer buf is answers more =
      asked n flags s h last answer (Ok System) buf (ends_ok answer buf is) answers more

  pub system_failed : (n flags : ℕ) (s : VgetrandomState) (h last : H) (answer : SystemAnswer) (errno : Errno)
      (buf : List ℕ) →
      IsAnswer answer (Err errno) buf → host.answers_as h n flags answer last → floor h ≤ floor last →
      Ends host floor (BySystem n flags s) h last (record { state = s; result = Err errno; buf = buf })
  system_failed n flags s h last answer errno buf is answers more =
      asked n flags s h last answer (Err errno) buf (ends_err answer errno buf is) answers more

  pub asks_at_once : (n flags : ℕ) (s : VgetrandomState) (h last : H) (finish : Finish)
      (ends : Ends host floor (BySystem n flags s) h last finish) → points_of ends.runs.steps ≡ []
  asks_at_once n flags s h last finish ends = ap points_of ends.runs.relates.steps_are

  module _ (turn : Turn) (n flags look : ℕ) (Tail : List HostStep → Attempt → Type 0) (h mid last : H)
      (tried : List HostStep) (attempt : Attempt) (does : DoesAll host h tried mid)
      (climbs : Climbs (floor h) (floor mid) tried) (tries : Tail tried attempt) (quiet : points_of tried ≡ []) where
    -- if the steps after `attempt` end the call without reaching a point, then the attempt and these steps end the call
    ends_after : (s : VgetrandomState) (result : Result VEnd Errno) (buf : List ℕ) →
        (ends : Ends host floor (AfterAttempt n flags (IfOutdated turn n flags) attempt.end attempt) mid last
        (record { state = s; result = result; buf = buf })) → points_of ends.runs.steps ≡ [] →
        CameTo host floor (RestOf turn n flags Tail) n flags look (Ended result) h last s buf
    ends_after s result buf ends too = (
      record {
        runs = record {
          steps = tried ++ ends.runs.steps;
          outcome = prefix_outcome attempt.entries ends.runs.outcome;
          does = does_append host floor h mid last tried ends.runs.steps does ends.runs.does;
          relates = record {
            tried = tried;
            rest = ends.runs.steps;
            attempt = attempt;
            outcome_after = ends.runs.outcome;
            steps_are = refl;
            tries = tries;
            goes_on = ends.runs.relates;
            outcome_is = refl;
          };
          state = ends.runs.state;
          ends = ends.runs.ends;
        };
        climbs = climbs_append (floor h) (floor mid) (floor last) tried ends.runs.steps climbs ends.climbs;
      },
      points_append tried ends.runs.steps ∙ (λ i. quiet i ++ too i),
    )

  -- The steps of an attempt after its point Start

  start_current : (turn : Turn) (n flags c published : ℕ) (out : List ℕ) (s : VgetrandomState) (h : H) →
      s.generation ≡ published →
      CameTo host floor (RestOf turn n flags (FromStart n c published s)) n flags published
      (At (record { turn = turn; point = Serve; published = published; next_block = c })) h h s out
  start_current turn n flags c published out s h same = (
    in_call host floor turn n flags (FromStart n c published s) (AtPoint Serve (FromServe n c) s) h h [] [] refl
        (omega arith) (λ rest attempt r. match_true _ _ _ (eq-eqb s.generation published same) r),
    refl,
    refl,
  )

  start_other : (turn : Turn) (n flags c published : ℕ) (out : List ℕ) (s : VgetrandomState) (h : H) →
      s.generation ≢ published →
      CameTo host floor (RestOf turn n flags (FromStart n c published s)) n flags published
      (At (record { turn = turn; point = Written; published = published; next_block = c })) h h
      (record s { generation = published }) out
  start_other turn n flags c published out s h other = (
    in_call host floor turn n flags (FromStart n c published s)
        (AtPoint Written (FromWritten n c) (record s { generation = published })) h h [] [] refl
        (omega arith) (λ rest attempt r. match_false _ _ _ (ne-eqb s.generation published other) r),
    refl,
    refl,
  )

  pub start_came : (n flags : ℕ) (place next : Place) (out : List ℕ) (s t : VgetrandomState) (h : H) →
      place.point ≡ Start →
      (s.generation ≡ place.published → (t ≡ s) × (next ≡ record place { point = Serve })) →
      (s.generation ≢ place.published →
      (t ≡ record s { generation = place.published }) × (next ≡ record place { point = Written })) →
      CameTo host floor (AfterPlace n flags place out s) n flags place.published (At next) h h t out
  start_came n flags place next out s t h point current other =
      let Goal : Point → Place → VgetrandomState → Type 0 = λ p to u.
      CameTo host floor (RestOf place.turn n flags (FromPoint p n place.next_block place.published out s)) n flags
      place.published (At to) h h u out in
      let given : Goal Start next t = elim (eqb_tells s.generation place.published) [
        | inl same ↦ let k = current same.1 in
            subst (λ (to : Place). Goal Start to t) (sym k.1) (subst (λ (u : VgetrandomState).
            Goal Start (record place { point = Serve }) u) (sym k.0)
            (start_current place.turn n flags place.next_block place.published out s h same.1))
        | inr differs ↦ let k = other differs.1 in
            subst (λ (to : Place). Goal Start to t) (sym k.1) (subst (λ (u : VgetrandomState).
            Goal Start (record place { point = Written }) u) (sym k.0)
            (start_other place.turn n flags place.next_block place.published out s h differs.1))
      ] in
      subst (λ (p : Point). Goal p next t) (sym point) given

  -- The steps of an attempt after its point Written

  pub key_came : (n flags : ℕ) (place next : Place) (out : List ℕ) (s t : VgetrandomState) (h last : H)
      (answer : SystemAnswer) →
      next ≡ record place { point = Serve } → KeyIsRead answer (Ok tt) s t → host.answers_as h 32 0 answer last →
      floor h ≤ floor last →
      CameTo host floor (RestOf place.turn n flags (FromWritten n place.next_block s)) n flags
      place.published (At next) h last t out
  key_came n flags place next out s t h last (failed errno) at reads answers more = absurd (no_error errno reads.0)
  key_came n flags place next out s t h last (read key visit) at reads answers more =
      subst (λ (to : Place). CameTo host floor (RestOf place.turn n flags (FromWritten n place.next_block s)) n flags
      place.published (At to) h last t out) (sym at) (
        in_call host floor place.turn n flags (FromWritten n place.next_block s)
            (AtPoint Serve (FromServe n place.next_block) t) h last
            (system_call 32 0 (read key visit) ∷ []) (rekey_entry visit) (last, answers, refl) more
            (λ rest attempt r. record {
              answer = read key visit;
              rest = rest;
              steps_are = refl;
              goes_on = record {
                attempt_after = attempt;
                goes_on = subst (λ (u : VgetrandomState). AtPoint Serve (FromServe n place.next_block) u rest attempt)
                    reads.1 r;
                attempt_is = refl;
              };
            }),
        refl,
        refl,
      )

  pub key_failed : (turn : Turn) (n flags look c : ℕ) (s t : VgetrandomState) (h mid last : H) (answer : SystemAnswer)
      (errno : Errno) (u : VgetrandomState) (result : Result VEnd Errno) (buf : List ℕ) →
      KeyIsRead answer (Err errno) s t → host.answers_as h 32 0 answer mid → floor h ≤ floor mid →
      Ends host floor (BySystem n flags (state_after_call t)) mid last
      (record { state = u; result = result; buf = buf }) →
      CameTo host floor (RestOf turn n flags (FromWritten n c s)) n flags look (Ended result) h last u buf
  key_failed turn n flags look c s t h mid last (read key visit) errno u result buf reads answers more ends =
      absurd (no_error errno (sym reads.0))
  key_failed turn n flags look c s t h mid last (failed why) errno u result buf reads answers more ends =
      let attempt : Attempt =
      record { out = []; state = t; next_block = c; entries = []; end = not_keyed } in
      ends_after turn n flags look (FromWritten n c s) h mid last (system_call 32 0 (failed why) ∷ []) attempt
      (mid, answers, refl) more
      (record {
        answer = failed why;
        rest = [];
        steps_are = refl;
        goes_on = record {
          key = reads.1.0;
          steps_are = refl;
          attempt_is = ap (λ (z : VgetrandomState).
              record { out = []; state = z; next_block = c; entries = []; end = not_keyed }) reads.1.1;
        };
      }) refl u result buf ends
      (asks_at_once n flags (state_after_call t) mid last (record { state = u; result = result; buf = buf }) ends)

  -- The steps of an attempt after its point Serve

  pub serve_came : (n flags : ℕ) (place next : Place) (before out : List ℕ) (s t : VgetrandomState) (h : H) →
      place.point ≡ Serve → out ≡ copy_bytes s place.next_block n → t ≡ state_after_copy s place.next_block n →
      next ≡ record place { point = End; next_block = block_after_copy s place.next_block n } →
      CameTo host floor (AfterPlace n flags place before s) n flags place.published (At next) h h t out
  serve_came n flags place next before out s t h point bytes state at =
      let c = place.next_block in
      let Goal : Point → Place → VgetrandomState → List ℕ → Type 0 = λ p to u bs.
      CameTo host floor (RestOf place.turn n flags (FromPoint p n c place.published before s)) n flags
      place.published (At to) h h u bs in
      let given : Goal Serve (record place { point = End; next_block = block_after_copy s c n })
      (state_after_copy s c n) (copy_bytes s c n) = (
        in_call host floor place.turn n flags (FromServe n c s)
            (AtPoint End (FromEnd (copy_bytes s c n) (block_after_copy s c n)) (state_after_copy s c n)) h h []
            (copy_entries s c n) refl (omega arith)
            (λ rest attempt r. record { attempt_after = attempt; goes_on = r; attempt_is = refl }),
        refl,
        refl,
      ) in
      subst (λ (p : Point). Goal p next t out) (sym point)
      (subst (λ (to : Place). Goal Serve to t out) (sym at)
      (subst (λ (u : VgetrandomState). Goal Serve (record place {
        point = End;
        next_block = block_after_copy s c n;
      }) u out) (sym state)
      (subst (λ (bs : List ℕ). Goal Serve (record place { point = End; next_block = block_after_copy s c n })
      (state_after_copy s c n) bs) (sym bytes) given)))

  -- The steps of an attempt after its point End

  -- if at the end of an attempt the state still has the published generation, the call ends with the copied bytes
  pub end_holds : (turn : Turn) (n flags look c e : ℕ) (out : List ℕ) (s t : VgetrandomState) (h last : H) →
      e ≡ s.generation → t ≡ state_after_call s → host.publishes_as h e last → floor h ≤ e → e ≤ floor last →
      CameTo host floor (RestOf turn n flags (FromEnd out c s)) n flags look (Ended (Ok Batch)) h last t out
  end_holds turn n flags look c e out s t h last same state found low high =
      ends_after turn n flags look (FromEnd out c s) h last last (publishes e ∷ [])
      (record { out = out; state = s; next_block = c; entries = []; end = holds }) (last, found, refl) (low, high)
      (record {
        published = e;
        steps_are = refl;
        attempt_is = ap (λ (b : Bool). record {
          out = out;
          state = s;
          next_block = c;
          entries = [];
          end = if b then holds else outdated;
        }) (sym (eq-eqb s.generation e (sym same)));
      }) refl t (Ok Batch) out
      (record {
        runs = record {
          steps = [];
          outcome = record { ending = by_batch out; state = state_after_call s; entries = [] };
          does = refl;
          relates = record { steps_are = refl; outcome_is = refl };
          state = state;
          ends = (refl, refl);
        };
        climbs = omega arith;
      }) refl

  -- if at the end of the first attempt the state has another generation than the published one, the second attempt
  -- begins
  pub end_again : (n flags look c e g : ℕ) (out : List ℕ) (s : VgetrandomState) (h mid last : H) →
      e ≢ s.generation → host.publishes_as h e mid → host.publishes_as mid g last → floor h ≤ e → e ≤ floor mid →
      floor mid ≤ g → g ≤ floor last →
      CameTo host floor (RestOf First n flags (FromEnd out c s)) n flags look
      (At (record { turn = Second; point = Start; published = g; next_block = c })) h last s out
  end_again n flags look c e g out s h mid last other found again low high above below = (
    record {
      steps = publishes e ∷ publishes g ∷ [];
      entries = [];
      does = (mid, found, (last, again, refl));
      climbs = (low, (omega arith, below));
      leads = λ rest outcome r. record {
        tried = publishes e ∷ [];
        rest = publishes g ∷ rest;
        attempt = outdated_attempt out c s;
        outcome_after = outcome;
        steps_are = refl;
        tries = ended_outdated out c e s other;
        goes_on = record {
          tried = publishes g ∷ r.tried;
          rest = r.rest;
          attempt = r.attempt;
          outcome_after = r.outcome_after;
          steps_are = ap (λ (xs : List HostStep). publishes g ∷ xs) r.steps_are;
          tries = record { published = g; rest = r.tried; steps_are = refl; goes_on = r.tries };
          goes_on = r.goes_on;
          outcome_is = r.outcome_is;
        };
        outcome_is = refl;
      };
    },
    refl,
    refl,
  )

  -- if at the end of the second attempt the state has another generation than the published one, the system call ends
  -- the call
  pub end_outdated : (n flags look c e : ℕ) (out : List ℕ) (s t : VgetrandomState) (h mid last : H)
      (result : Result VEnd Errno) (buf : List ℕ) →
      e ≢ s.generation → host.publishes_as h e mid → floor h ≤ e → e ≤ floor mid →
      Ends host floor (BySystem n flags (state_after_call s)) mid last
      (record { state = t; result = result; buf = buf }) →
      CameTo host floor (RestOf Second n flags (FromEnd out c s)) n flags look (Ended result) h last t buf
  end_outdated n flags look c e out s t h mid last result buf other found low high ends =
      ends_after Second n flags look (FromEnd out c s) h mid last (publishes e ∷ []) (outdated_attempt out c s)
      (mid, found, refl) (low, high) (ended_outdated out c e s other) refl t result buf ends
      (asks_at_once n flags (state_after_call s) mid last (record { state = t; result = result; buf = buf }) ends)
