-- Whatever the host does, after a vgetrandom call the list of the state is in order, and the state's served bytes are
-- 0.
use Rattle.std.proofs.Common.{◌≡◌, ℕ, zero, suc, ◌+◌, ◌-◌, ◌≤◌, Bool, true, false, List, [], ◌∷◌, ◌++◌, inr, refl, sym}
use Rattle.std.proofs.Common.{subst, ap, arith, Some, None, Option}
use Rattle.std.specs.Prelude.{◌==◌, MatchBool, if◌then◌else◌}
use Rattle.std.specs.List.{fold, AllByRecursion}
use Rattle.std.proofs.lemmas.Bool.{leb-true}
use Rattle.key_names.specs.declared.entries.CpuEntry.{CpuEntry}
use Rattle.key_names.specs.declared.entries.VEntry.{VEntry}
use Rattle.key_names.specs.declared.entries.VEntry.TheVariants.{Rekey, Wipe}
use Rattle.key_names.specs.declared.point.Point.{Point}
use Rattle.key_names.specs.declared.point.Point.TheVariants.{Start, Written, Serve as ServePoint, End}
use Rattle.key_names.specs.Lanes.LawfulList.{LawfulFrom}
use Rattle.key_names.specs.Lanes.StateList.{NamedState, anything, MayStart, MayFollow, TakesRead, StateMayCome}
use Rattle.key_names.specs.Lanes.StateList.{OrderedStateList, LawfulStateList, state_start, state_step}
use Rattle.key_names.specs.Kernel.Flags.{is_bad}
use Rattle.key_names.specs.Kernel.VgetrandomState.{VgetrandomState, wiped_state, state_left}
use Rattle.key_names.specs.Kernel.BatchCopy.{bytes_left, has_left, copy_bytes, state_of_same_batch, state_after_copy}
use Rattle.key_names.specs.Kernel.BatchCopy.{block_after_copy, serve_entry, copy_entries}
use Rattle.key_names.specs.Kernel.Vgetrandom.{CpuPlace, SystemAnswer, read, failed, HostStep, AttemptEnd, holds, outdated}
use Rattle.key_names.specs.Kernel.Vgetrandom.{not_keyed, Attempt, wipe_entry, rekey_entry, AtPoint, AfterKeyRead, FromEnd}
use Rattle.key_names.specs.Kernel.Vgetrandom.{FromServe, Keyed, FromWritten, FromStart, IsAttempt, Outcome, BySystem}
use Rattle.key_names.specs.Kernel.Vgetrandom.{ByNothing, AfterAttempt, AttemptAndRest, AfterBoth, state_after_call}
use Rattle.key_names.specs.Kernel.Vgetrandom.{SecondAttempt, FirstAttempt, FromPublished, FromLook, IsCall}
use Rattle.key_names.specs.Callers.StateCalls.{StateUse, by_call, by_copy, by_wipe, StateUseConforms, state_after_use}
use Rattle.key_names.specs.Callers.StateCalls.{entries_of_use, entries_of_uses, UsesLeaveLawfulLists}
use Rattle.key_names.proofs.Uses.BatchBytes.{zeros_more}
use Rattle.key_names.proofs.Vgetrandom.CopiesKeep.{Settled, Ready, ready, ready_start, may_start}
use Rattle.key_names.proofs.Vgetrandom.CopiesKeep as copies

-- let C follow from A when `b` is true, and from B when `b` is false. Then C follows from the choice between A and B by
-- `b`
pub match_cases : (A B C : Type 0) (b : Bool) → ((b ≡ true) → A → C) → ((b ≡ false) → B → C) → MatchBool b A B → C
match_cases A B C true f g h = f refl h
match_cases A B C false f g h = g refl h

pub some_bytes : (n : ℕ) → (n == 0) ≡ false → 1 ≤ n
some_bytes zero h = cc
some_bytes (suc n) h = omega arith

module _ (caller state : ℕ) where
  abbrev step : NamedState → VEntry → NamedState
  step = state_step caller state

  abbrev pub Keeps : (NamedState → Type 0) → NamedState → List VEntry → Type 0
  Keeps = copies.Keeps caller state

  keeps_append : (After : NamedState → Type 0) (t : NamedState) (xs ys : List VEntry) →
      Keeps (λ u. Keeps After u ys) t xs → Keeps After t (xs ++ ys)
  keeps_append = copies.keeps_append caller state

  keeps_weaker : (After Also : NamedState → Type 0) → ((u : NamedState) → After u → Also u) → (t : NamedState)
      (es : List VEntry) → Keeps After t es → Keeps Also t es
  keeps_weaker = copies.keeps_weaker caller state

  -- the entries of an attempt, or of a call, keep the list in order, and afterwards the state matches its list
  -- (`Settled`)
  abbrev pub AttemptKeeps : NamedState → Attempt → Type 0
  AttemptKeeps t attempt = Keeps (λ u. Settled u attempt.state) t attempt.entries

  abbrev pub OutcomeKeeps : NamedState → Outcome → Type 0
  OutcomeKeeps t outcome = Keeps (λ u. Settled u outcome.state) t outcome.entries

  after_keeps : (t : NamedState) (es : List VEntry) (attempt after : Attempt) →
      attempt ≡ record after { entries = es ++ after.entries } →
      Keeps (λ u. AttemptKeeps u after) t es → AttemptKeeps t attempt
  after_keeps t es attempt after is h =
      let P : Attempt → Type 0 = λ a. AttemptKeeps t a in
      subst P (sym is) (keeps_append (λ u. Settled u after.state) t es after.entries h)

  -- if the part of an attempt after a point keeps the list in order, so does the attempt from that point on. `Before`
  -- holds at the point
  point_keeps : (Before : NamedState → VgetrandomState → Type 0) →
      ((t : NamedState) (s : VgetrandomState) → Before t s → MayStart t.expected) →
      ((t : NamedState) → Settled t wiped_state → Before t wiped_state) →
      (point : Point) (GoesOn : VgetrandomState → List HostStep → Attempt → Type 0) (t : NamedState)
      (s : VgetrandomState) (steps : List HostStep) (attempt : Attempt) →
      ((u : NamedState) (r : VgetrandomState) (rest : List HostStep) (after : Attempt) → GoesOn r rest after →
      Before u r → AttemptKeeps u after) →
      AtPoint point GoesOn s steps attempt → Before t s → AttemptKeeps t attempt
  point_keeps Before may wiped_before point GoesOn t s steps attempt on at h =
      after_keeps t (wipe_entry at.wiped) attempt at.attempt_after at.attempt_is (go at.wiped at.goes_on)
    where
      go : (b : Bool) → GoesOn (state_left b s) at.rest at.attempt_after →
          Keeps (λ u. AttemptKeeps u at.attempt_after) t (wipe_entry b)
      go false g = record { lawful = tt; after = on t s at.rest at.attempt_after g h }
      go true g = record {
        lawful = (may t s h, tt);
        after = on (step t Wipe) wiped_state at.rest at.attempt_after g
            (wiped_before (step t Wipe) (record
            { same_pos = refl; within = omega arith; expects = refl; zeros = refl }));
      }

  settled_start : (t : NamedState) (s : VgetrandomState) → Settled t s → MayStart t.expected
  settled_start t s h = may_start t.expected h.expects

  end_keeps : (out : List ℕ) (c : ℕ) (t : NamedState) (s : VgetrandomState) (steps : List HostStep)
      (attempt : Attempt) →
      FromEnd out c s steps attempt → Settled t s → AttemptKeeps t attempt
  end_keeps out c t s steps attempt e h =
      let P : Attempt → Type 0 = λ a. AttemptKeeps t a in
      subst P (sym e.attempt_is) (let m : AttemptKeeps t
      (record {
        out = out;
        state = s;
        next_block = c;
        entries = [];
        end =
            if s.generation == e.published then holds else outdated;
      }) = record { lawful = tt; after = h } in m)

  from_serve_keeps : (n c : ℕ) → 1 ≤ n →
      (t : NamedState) (s : VgetrandomState) (steps : List HostStep) (attempt : Attempt) →
      FromServe n c s steps attempt → Ready t s → AttemptKeeps t attempt
  from_serve_keeps n c some t s steps attempt from h =
      after_keeps t (copy_entries s c n) attempt from.attempt_after from.attempt_is
      (keeps_weaker (λ u. Settled u (state_after_copy s c n)) (λ u. AttemptKeeps u from.attempt_after)
      (λ u settled. point_keeps Settled settled_start (λ v x. x) End
      (FromEnd (copy_bytes s c n) (block_after_copy s c n)) u (state_after_copy s c n) steps from.attempt_after
      (λ v r rest after e x. end_keeps (copy_bytes s c n) (block_after_copy s c n) v r rest after e x)
      from.goes_on settled)
      t (copy_entries s c n) (copies.copy_keeps caller state t s c n some h))

  serve_point_keeps : (n c : ℕ) → 1 ≤ n →
      (t : NamedState) (s : VgetrandomState) (steps : List HostStep) (attempt : Attempt) →
      AtPoint ServePoint (FromServe n c) s steps attempt → Ready t s → AttemptKeeps t attempt
  serve_point_keeps n c some t s steps attempt at h =
      point_keeps Ready ready_start (λ u x. ready u wiped_state x) ServePoint (FromServe n c) t s steps attempt
      (λ u r rest after g x. from_serve_keeps n c some u r rest after g x) at h

  keyed_keeps : (n c : ℕ) (key : List ℕ) (visit : Option CpuPlace) → 1 ≤ n →
      (t : NamedState) (s : VgetrandomState) (steps : List HostStep) (attempt : Attempt) →
      Keyed n c key visit s steps attempt → Settled t s → AttemptKeeps t attempt
  keyed_keeps n c key visit some t s steps attempt k h =
      after_keeps t (rekey_entry visit) attempt k.attempt_after k.attempt_is (go visit)
    where
      serves : (u : NamedState) → MayStart u.expected → AttemptKeeps u k.attempt_after
      serves u may = serve_point_keeps n c some u (record s { key = key; pos = 96 }) steps k.attempt_after k.goes_on
          (record { within = omega arith; expects = inr (may, refl) })

      go : (at : Option CpuPlace) → Keeps (λ u. AttemptKeeps u k.attempt_after) t (rekey_entry at)
      go None = record { lawful = tt; after = serves t (settled_start t s h) }
      go (Some at) = record { lawful = (h.expects, tt); after = serves (step t (Rekey at.cpu at.place)) tt }

  written_keeps : (n c : ℕ) → 1 ≤ n →
      (t : NamedState) (s : VgetrandomState) (steps : List HostStep) (attempt : Attempt) →
      FromWritten n c s steps attempt → Settled t s → AttemptKeeps t attempt
  written_keeps n c some t s steps attempt from h = go from.answer from.goes_on
    where
      go : (answer : SystemAnswer) → AfterKeyRead n c answer s from.rest attempt → AttemptKeeps t attempt
      go (read key visit) k = keyed_keeps n c key visit some t s from.rest attempt k h
      go (failed errno) k =
          let P : Attempt → Type 0 = λ a. AttemptKeeps t a in
          subst P (sym k.attempt_is) (let m : AttemptKeeps t
          (record {
            out = [];
            state = record s { key = k.key; generation = 0 };
            next_block = c;
            entries =
                [];
            end = not_keyed;
          })
          = record {
            lawful = tt;
            after =
                record { same_pos = h.same_pos; within = h.within; expects = h.expects; zeros = h.zeros };
          } in m)

  start_keeps : (n c published : ℕ) → 1 ≤ n →
      (t : NamedState) (s : VgetrandomState) (steps : List HostStep) (attempt : Attempt) →
      FromStart n c published s steps attempt → Settled t s → AttemptKeeps t attempt
  start_keeps n c published some t s steps attempt from h =
      match_cases (AtPoint ServePoint (FromServe n c) s steps attempt)
      (AtPoint Written (FromWritten n c) (record s { generation = published }) steps attempt)
      (AttemptKeeps t attempt) (s.generation == published)
      (λ is at. serve_point_keeps n c some t s steps attempt at (ready t s h))
      (λ is at. point_keeps Settled settled_start (λ u x. x) Written (FromWritten n c) t
      (record s { generation = published }) steps attempt
      (λ u r rest after g x. written_keeps n c some u r rest after g x) at
      (record { same_pos = h.same_pos; within = h.within; expects = h.expects; zeros = h.zeros }))
      from

  -- if the state matches its list (`Settled`), an attempt to copy at least one byte keeps the list in order
  pub attempt_keeps : (n c : ℕ) → 1 ≤ n →
      (t : NamedState) (s : VgetrandomState) (steps : List HostStep) (attempt : Attempt) →
      IsAttempt n c s steps attempt → Settled t s → AttemptKeeps t attempt
  attempt_keeps n c some t s steps attempt is h =
      point_keeps Settled settled_start (λ u x. x) Start (FromStart n c is.published) t s is.rest attempt
      (λ u r rest after g x. start_keeps n c is.published some u r rest after g x) is.goes_on h

  -- a call that leaves no entries and does not change the state keeps the list in order
  none_keeps : (t : NamedState) (s : VgetrandomState) (outcome : Outcome) → outcome.entries ≡ [] →
      outcome.state ≡ s → Settled t s → OutcomeKeeps t outcome
  none_keeps t s outcome none same h =
      let Q : VgetrandomState → Type 0 = λ x. Settled t x in
      let after : Settled t outcome.state = subst Q (sym same) h in
      let P : List VEntry → Type 0 = λ es. Keeps (λ u. Settled u outcome.state) t es in
      let empty : Keeps (λ u. Settled u outcome.state) t [] = record { lawful = tt; after = after } in
      subst P (sym none) empty

  system_keeps : (n flags : ℕ) (t : NamedState) (s : VgetrandomState) (steps : List HostStep) (outcome : Outcome) →
      BySystem n flags s steps outcome → Settled t s → OutcomeKeeps t outcome
  system_keeps n flags t s steps outcome by h =
      none_keeps t s outcome (ap (λ (o : Outcome). o.entries) by.outcome_is)
      (ap (λ (o : Outcome). o.state) by.outcome_is) h

  settled_after : (t : NamedState) (s : VgetrandomState) → Settled t s → Settled t (state_after_call s)
  settled_after t s h = record { same_pos = h.same_pos; within = h.within; expects = h.expects; zeros = h.zeros }

  -- if an attempt keeps the list in order, and so does the rest of its call, then both together do
  tried_keeps : (n flags : ℕ) (Outdated : ℕ → VgetrandomState → List HostStep → Outcome → Type 0)
      (Tried : List HostStep → Attempt → Type 0) →
      (t : NamedState) (steps : List HostStep) (outcome : Outcome) →
      ((tried : List HostStep) (attempt : Attempt) → Tried tried attempt → AttemptKeeps t attempt) →
      ((u : NamedState) (c : ℕ) (s : VgetrandomState) (rest : List HostStep) (after : Outcome) →
      Outdated c s rest after → Settled u s → OutcomeKeeps u after) →
      AttemptAndRest n flags Outdated Tried steps outcome → OutcomeKeeps t outcome
  tried_keeps n flags Outdated Tried t steps outcome tries goes_on r =
      let P : Outcome → Type 0 = λ o. OutcomeKeeps t o in
      subst P (sym r.outcome_is)
      (keeps_append (λ u. Settled u r.outcome_after.state) t r.attempt.entries r.outcome_after.entries
      (keeps_weaker (λ u. Settled u r.attempt.state) (λ u. OutcomeKeeps u r.outcome_after)
      (λ u h. go r.attempt.end u h r.goes_on) t r.attempt.entries
      (tries r.tried r.attempt r.tries)))
    where
      go : (end : AttemptEnd) (u : NamedState) → Settled u r.attempt.state →
          AfterAttempt n flags Outdated end r.attempt r.rest r.outcome_after → OutcomeKeeps u r.outcome_after
      go holds u h by = none_keeps u (state_after_call r.attempt.state) r.outcome_after
          (ap (λ (o : Outcome). o.entries) by.outcome_is) (ap (λ (o : Outcome). o.state) by.outcome_is)
          (settled_after u r.attempt.state h)
      go outdated u h by = goes_on u r.attempt.next_block r.attempt.state r.rest r.outcome_after by h
      go not_keyed u h by = system_keeps n flags u (state_after_call r.attempt.state) r.rest r.outcome_after by
          (settled_after u r.attempt.state h)

  second_keeps : (n flags : ℕ) → 1 ≤ n →
      (c : ℕ) (t : NamedState) (s : VgetrandomState) (steps : List HostStep) (outcome : Outcome) →
      SecondAttempt n flags c s steps outcome → Settled t s → OutcomeKeeps t outcome
  second_keeps n flags some c t s steps outcome second h =
      tried_keeps n flags (AfterBoth n flags) (IsAttempt n c s) t steps outcome
      (λ tried attempt is. attempt_keeps n c some t s tried attempt is h)
      (λ u d v rest after by x. system_keeps n flags u (state_after_call v) rest after by (settled_after u v x))
      second

  first_keeps : (n flags : ℕ) → 1 ≤ n →
      (t : NamedState) (s : VgetrandomState) (steps : List HostStep) (outcome : Outcome) →
      FirstAttempt n flags s steps outcome → Settled t s → OutcomeKeeps t outcome
  first_keeps n flags some t s steps outcome first h =
      tried_keeps n flags (SecondAttempt n flags) (IsAttempt n 0 s) t steps outcome
      (λ tried attempt is. attempt_keeps n 0 some t s tried attempt is h)
      (λ u c v rest after second x. second_keeps n flags some c u v rest after second x)
      first

  published_keeps : (n flags published : ℕ) (t : NamedState) (s : VgetrandomState) (steps : List HostStep)
      (outcome : Outcome) →
      FromPublished n flags s published steps outcome → Settled t s → OutcomeKeeps t outcome
  published_keeps n flags published t s steps outcome from h =
      match_cases (BySystem n flags s steps outcome) _ (OutcomeKeeps t outcome) (published == 0)
      (λ is by. system_keeps n flags t s steps outcome by h)
      (λ is. match_cases (ByNothing s steps outcome) _ (OutcomeKeeps t outcome) (n == 0)
      (λ zero by. none_keeps t s outcome (ap (λ (o : Outcome). o.entries) by.outcome_is)
      (ap (λ (o : Outcome). o.state) by.outcome_is) h)
      (λ some. match_cases (BySystem n flags s steps outcome)
      (FirstAttempt n flags (record s { in_use = true }) steps outcome) (OutcomeKeeps t outcome) s.in_use
      (λ inside by. system_keeps n flags t s steps outcome by h)
      (λ outside first. first_keeps n flags (some_bytes n some) t (record s { in_use = true }) steps outcome first
      (record { same_pos = h.same_pos; within = h.within; expects = h.expects; zeros = h.zeros }))))
      from

  -- if the state matches its list (`Settled`), a vgetrandom call keeps the list in order
  pub call_keeps : (n flags : ℕ) (t : NamedState) (s : VgetrandomState) (steps : List HostStep) (outcome : Outcome) →
      IsCall n flags s steps outcome → Settled t s → OutcomeKeeps t outcome
  call_keeps n flags t s steps outcome is h =
      match_cases (BySystem n flags s steps outcome) (FromLook n flags s steps outcome) (OutcomeKeeps t outcome)
      (is_bad flags)
      (λ bad by. system_keeps n flags t s steps outcome by h)
      (λ good look. published_keeps n flags look.published t s look.rest outcome look.goes_on h)
      is

  -- if the state matches its list (`Settled`), a wipe keeps the list in order; below, so does a copy without a call
  pub wipe_keeps : (t : NamedState) (s : VgetrandomState) → Settled t s →
      Keeps (λ u. Settled u wiped_state) t (Wipe ∷ [])
  wipe_keeps t s h = record {
    lawful = (settled_start t s h, tt);
    after = record { same_pos = refl; within = omega arith; expects = refl; zeros = refl };
  }

  pub local_keeps : (t : NamedState) (s : VgetrandomState) (n : ℕ) → has_left s n ≡ true → Settled t s →
      Keeps (λ u. Settled u (state_of_same_batch s n)) t (serve_entry s.pos n)
  local_keeps t s n left h =
      let fits : s.pos + n ≤ 96 = (let le : n ≤ 96 - s.pos = leb-true n (bytes_left s) left in let w = h.within in
      omega arith) in
      keeps_weaker (λ u. (u.pos ≡ s.pos + n) × (u.expected ≡ anything)) (λ u. Settled u (state_of_same_batch s n))
      (λ u x. record { same_pos = x.0; within = fits; expects = x.1; zeros = zeros_more s.pos n s.batch h.zeros }) t
      (serve_entry s.pos n)
      (copies.serve_keeps caller state t s n h.expects h.same_pos fits)

  use_keeps : (t : NamedState) (s : VgetrandomState) (u : StateUse) → StateUseConforms s u → Settled t s →
      Keeps (λ v. Settled v (state_after_use s u)) t (entries_of_use s u)
  use_keeps t s (by_call n flags steps outcome) conforms h = call_keeps n flags t s steps outcome conforms h
  use_keeps t s (by_copy n) conforms h = local_keeps t s n conforms h
  use_keeps t s by_wipe conforms h = wipe_keeps t s h

  -- if the state matches its list (`Settled`), uses of the state that conform (`StateUseConforms`), one after another,
  -- keep the list in order
  pub uses_keep : (t : NamedState) (s : VgetrandomState) (uses : List StateUse) →
      LawfulFrom StateUseConforms state_after_use s uses →
      Settled t s → Keeps (λ v. Settled v (fold state_after_use s uses)) t (entries_of_uses s uses)
  uses_keep t s [] conforms h = record { lawful = tt; after = h }
  uses_keep t s (u ∷ uses) conforms h =
      keeps_append (λ v. Settled v (fold state_after_use s (u ∷ uses))) t (entries_of_use s u)
      (entries_of_uses (state_after_use s u) uses)
      (keeps_weaker (λ v. Settled v (state_after_use s u))
      (λ v. Keeps (λ w. Settled w (fold state_after_use s (u ∷ uses))) v (entries_of_uses (state_after_use s u) uses))
      (λ v x. uses_keep v (state_after_use s u) uses conforms.1 x) t (entries_of_use s u) (use_keeps t s u conforms.0 h))

-- if a list is in order, and its rekeys take reads of 32 bytes, then it is lawful
lawful_by_reads : (cpus : ℕ → List CpuEntry) (caller state : ℕ) (t : NamedState) (es : List VEntry) →
    LawfulFrom MayFollow (state_step caller state) t es → AllByRecursion (TakesRead cpus) es →
    LawfulFrom (StateMayCome cpus) (state_step caller state) t es
lawful_by_reads cpus caller state t [] follow reads = tt
lawful_by_reads cpus caller state t (e ∷ es) follow reads =
    ((follow.0, reads.0), lawful_by_reads cpus caller state (state_step caller state t e) es follow.1 reads.1)

pub lawful_list : (cpus : ℕ → List CpuEntry) (caller state : ℕ) (es : List VEntry) →
    OrderedStateList caller state es → AllByRecursion (TakesRead cpus) es → LawfulStateList cpus caller state es
lawful_list cpus caller state es ordered reads =
    record { comes = lawful_by_reads cpus caller state state_start es ordered.comes reads; ends = ordered.ends }

pub uses_leave_lawful_lists : UsesLeaveLawfulLists
uses_leave_lawful_lists caller state uses conforms =
    let m : Keeps caller state (λ v. Settled v (fold state_after_use wiped_state uses)) state_start
    (entries_of_uses wiped_state uses) =
    uses_keep caller state state_start wiped_state uses conforms
    (record { same_pos = refl; within = omega arith; expects = refl; zeros = refl }) in
    let ordered : OrderedStateList caller state (entries_of_uses wiped_state uses) =
    record { comes = m.lawful; ends = (m.after).expects } in
    record {
      ordered = ordered;
      lawful = λ cpus reads. lawful_list cpus caller state (entries_of_uses wiped_state uses) ordered reads;
      served_zero = (m.after).zeros;
    }
