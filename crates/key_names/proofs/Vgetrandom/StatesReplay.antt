-- If the steps of each call are good (`Good`), a vgetrandom state has the key, the batch and the position that a replay
-- of its list gives.
use Rattle.std.proofs.Common.{◌≡◌, ℕ, zero, suc, ◌+◌, ◌-◌, ◌*◌, ◌≤◌, Bool, true, false, List, [], ◌∷◌, ◌++◌, inl, inr, refl, sym, subst, ap, ◌∙◌, arith, Some, None, Option, take, drop, append-nil}
use Rattle.std.specs.Prelude.{◌==◌, ⊤, if◌then◌else◌}
use Rattle.std.specs.List.{fold}
use Rattle.std.proofs.lemmas.List.{take-append-drop}
use Rattle.std.proofs.lemmas.List.Sums.{fold-append}
use Rattle.std.proofs.lemmas.Bool.{leb-true}
use Rattle.key_names.specs.declared.names.KeyName.{KeyName}
use Rattle.key_names.specs.declared.names.KeyName.TheVariants.{Call, Vdso}
use Rattle.key_names.specs.declared.names.LaneId.TheVariants.{Cpu as CpuLane}
use Rattle.key_names.specs.declared.entries.VEntry.{VEntry}
use Rattle.key_names.specs.declared.entries.VEntry.TheVariants.{Rekey, Blocks, Refill, Wipe}
use Rattle.key_names.specs.declared.point.Point.{Point}
use Rattle.key_names.specs.declared.point.Point.TheVariants.{Start, Written, Serve as ServePoint, End}
use Rattle.key_names.specs.Kernel.Batches.{with_zeros}
use Rattle.key_names.specs.Kernel.Keystream.{keystream}
use Rattle.key_names.specs.Keys.KeyInUse.{cpu_call_value}
use Rattle.key_names.specs.Lanes.Book.{Lists}
use Rattle.key_names.specs.Kernel.Flags.{is_bad}
use Rattle.key_names.specs.Lanes.StateList.{NamedState, state_step, refill_key}
use Rattle.key_names.specs.Keys.LiveMaterial.{StateBytes, state_bytes_step}
use Rattle.key_names.specs.Transcripts.StatesReplayed.{HasName, IsNamed}
use Rattle.key_names.specs.Kernel.VgetrandomState.{VgetrandomState, wiped_state, state_left}
use Rattle.key_names.specs.Kernel.BatchCopy.{bytes_left, whole_blocks, new_batch_bytes, has_left, copy_bytes, state_of_same_batch, state_of_new_batch, state_after_copy, block_after_copy, serve_entry, refill_entries, copy_entries}
use Rattle.key_names.specs.Kernel.Vgetrandom.{SystemAnswer, read, failed, HostStep, publishes, system_call, at_point, AttemptEnd, holds, outdated, not_keyed, Attempt, wipe_entry, AtPoint, AfterKeyRead, FromEnd, FromServe, FromWritten, FromStart, IsAttempt, Outcome, BySystem, ByNothing, AfterAttempt, AttemptAndRest, AfterBoth, state_after_call, SecondAttempt, FirstAttempt, FromPublished, FromLook, IsCall}
use Rattle.key_names.proofs.Vgetrandom.CallsKeep.{match_cases, some_bytes}

-- setting no bytes to 0 changes nothing
no_zeros : (pos : ℕ) (bytes : List ℕ) → bytes ≡ with_zeros pos 0 bytes
no_zeros pos bytes =
    let p : pos ≡ pos + 0 = omega arith in
    sym (take-append-drop pos bytes) ∙ ap (λ ys. ys ++ drop pos bytes) (sym (append-nil (take pos bytes)))
    ∙ ap (λ i. (take pos bytes ++ []) ++ drop i bytes) p

has_name : (o p : Option KeyName) → p ≡ o → HasName o → HasName p
has_name o p is h = (h.0, is ∙ h.1)

-- the answer of a system call for a new key is the key that a CPU's visit handed over
abbrev pub KeyIs : Lists → SystemAnswer → Type 0
KeyIs lists (failed errno) = ⊥
KeyIs lists (read bytes None) = ⊥
KeyIs lists (read bytes (Some at)) = bytes ≡ cpu_call_value lists at.cpu at.place

-- each generation that the steps publish is above 0, and a CPU's visit handed over each key that the steps read
abbrev pub Good : Lists → List HostStep → Type 0
Good lists [] = ⊤
Good lists (publishes g ∷ steps) = (1 ≤ g) × Good lists steps
Good lists (at_point point wiped ∷ steps) = Good lists steps
Good lists (system_call n flags answer ∷ steps) = ((n ≡ 32) → (flags ≡ 0) → KeyIs lists answer) × Good lists steps

pub good_append : (lists : Lists) (xs ys : List HostStep) → Good lists (xs ++ ys) → Good lists xs × Good lists ys
good_append lists [] ys h = (tt, h)
good_append lists (publishes g ∷ xs) ys h = let m = good_append lists xs ys h.1 in ((h.0, m.0), m.1)
good_append lists (at_point point wiped ∷ xs) ys h = good_append lists xs ys h
good_append lists (system_call n flags answer ∷ xs) ys h = let m = good_append lists xs ys h.1 in ((h.0, m.0), m.1)

module _ (lists : Lists) (caller k : ℕ) where
  -- the names and the bytes that a replay of some entries gives a vgetrandom state
  pub record Both : Type 0 where
    pub named : NamedState
    pub bytes : StateBytes

  abbrev pub step : Both → VEntry → Both
  step x e = record { named = state_step caller k x.named e; bytes = state_bytes_step lists x.bytes e }

  abbrev pub after : Both → List VEntry → Both
  after x es = fold step x es

  -- the state's batch and position are those of the replay `x`
  pub record Loose (x : Both) (s : VgetrandomState) : Type 0 where
    pub batch : x.bytes.batch ≡ s.batch
    pub pos : x.named.pos ≡ s.pos

  -- the state's batch, position and key are those of the replay `x`. If the state has a generation, its keys have names
  pub record Holds (x : Both) (s : VgetrandomState) : Type 0 where
    pub batch : x.bytes.batch ≡ s.batch
    pub pos : x.named.pos ≡ s.pos
    pub key : x.bytes.key ≡ s.key
    pub named : 1 ≤ s.generation → IsNamed x.named

  pub wiped_loose : (x : Both) → Loose (step x Wipe) wiped_state
  wiped_loose x = record { batch = refl; pos = refl }

  pub wiped_holds : (x : Both) → Holds (step x Wipe) wiped_state
  wiped_holds x = record { batch = refl; pos = refl; key = refl; named = λ some. absurd (omega arith) }

  -- the names and bytes `y` follow from `x` by serving `n` bytes of the batch from byte `pos` on
  pub record Served (x y : Both) (pos n : ℕ) : Type 0 where
    pub batch : y.bytes.batch ≡ with_zeros pos n x.bytes.batch
    pub key : y.bytes.key ≡ x.bytes.key
    pub pos_is : y.named.pos ≡ pos + n
    pub name : y.named.key ≡ x.named.key
    pub batch_name : y.named.batch_key ≡ x.named.batch_key

  pub serve_after : (x : Both) (pos n : ℕ) → x.named.pos ≡ pos → Served x (after x (serve_entry pos n)) pos n
  serve_after x pos zero at = record {
    batch = no_zeros pos x.bytes.batch;
    key = refl;
    pos_is = (let p : x.named.pos ≡ pos + 0 = omega arith in p);
    name = refl;
    batch_name = refl;
  }
  serve_after x pos (suc n) at =
      record { batch = refl; key = refl; pos_is = refl; name = refl; batch_name = refl }

  -- the names and bytes `y` follow from `x` by a refill from block `at`, and by serving the first `r` bytes of the new
  -- batch
  pub record Refilled (x y : Both) (at r : ℕ) : Type 0 where
    pub batch : y.bytes.batch ≡ with_zeros 0 r (keystream x.bytes.key (64 * at) 96)
    pub key : y.bytes.key ≡ keystream x.bytes.key (64 * at + 96) 32
    pub pos_is : y.named.pos ≡ r
    pub name : HasName x.named.key → HasName y.named.key
    pub batch_name : y.named.batch_key ≡ x.named.key

  kept_name : (n : ℕ) (o : Option KeyName) → HasName o → HasName (refill_key caller k n o)
  kept_name n None h = let e = h.1 in cc
  kept_name n (Some key) h = (Vdso caller k n, refl)

  refilled : (x y : Both) (at r : ℕ) → Served (step x (Refill at)) y 0 r → Refilled x y at r
  refilled x y at r served = record {
    batch = served.batch;
    key = served.key;
    pos_is = (let p : y.named.pos ≡ 0 + r = served.pos_is in let q : y.named.pos ≡ r = omega arith in q);
    name = λ h. has_name (refill_key caller k x.named.refills x.named.key) y.named.key served.name
        (kept_name x.named.refills x.named.key h);
    batch_name = served.batch_name;
  }

  pub refill_after : (x : Both) (c m r : ℕ) → Refilled x (after x (refill_entries c m r)) (c + m) r
  refill_after x c zero r = refilled x _ (c + 0) r (serve_after (step x (Refill (c + 0))) 0 r refl)
  refill_after x c (suc m) r =
      let u : Both = step x (Blocks c (suc m)) in
      let h : Refilled u (after u (Refill (c + suc m) ∷ serve_entry 0 r)) (c + suc m) r =
      refilled u _ (c + suc m) r (serve_after (step u (Refill (c + suc m))) 0 r refl) in
      record { batch = h.batch; key = h.key; pos_is = h.pos_is; name = h.name; batch_name = h.batch_name }

  -- if the replay `x` matches the state, then `x` with the copy's entries added matches the state after the copy
  pub copy_holds : (x : Both) (s : VgetrandomState) (c n : ℕ) → 1 ≤ n → Holds x s →
      Holds (after x (copy_entries s c n)) (state_after_copy s c n)
  copy_holds x s c n some h = go (has_left s n) refl
    where
      go : (b : Bool) → has_left s n ≡ b →
          Holds (after x (if b then serve_entry s.pos n
          else serve_entry s.pos (bytes_left s) ++ refill_entries c (whole_blocks s n) (new_batch_bytes s n)))
          (if b then state_of_same_batch s n else state_of_new_batch s (c + whole_blocks s n) (new_batch_bytes s n))
      go true is =
          let v : Served x (after x (serve_entry s.pos n)) s.pos n = serve_after x s.pos n h.pos in
          let y : Both = after x (serve_entry s.pos n) in
          record {
            batch = v.batch ∙ ap (with_zeros s.pos n) h.batch;
            pos = v.pos_is;
            key = v.key ∙ h.key;
            named = λ g. let m : IsNamed x.named = h.named g in (
              has_name x.named.key y.named.key v.name m.0,
              elim m.1 [
                | inl full ↦ absurd (let le : n ≤ 96 - s.pos = leb-true n (bytes_left s) is in let p = h.pos in
                    omega arith)
                | inr key ↦ inr (has_name x.named.batch_key y.named.batch_key v.batch_name key)
              ],
            );
          }
      go false is =
          let rest : List VEntry = serve_entry s.pos (bytes_left s) in
          let u : Both = after x rest in
          let v : Served x u s.pos (bytes_left s) = serve_after x s.pos (bytes_left s) h.pos in
          let at : ℕ = c + whole_blocks s n in
          let es : List VEntry = refill_entries c (whole_blocks s n) (new_batch_bytes s n) in
          let w : Refilled u (after u es) at (new_batch_bytes s n) =
          refill_after u c (whole_blocks s n) (new_batch_bytes s n) in
          let key : u.bytes.key ≡ s.key = v.key ∙ h.key in
          let P : Both → Type 0 = λ y. Holds y (state_of_new_batch s at (new_batch_bytes s n)) in
          subst P (sym (fold-append step x rest es)) (let m : P (after u es) = record {
            batch = w.batch ∙ ap (λ v. with_zeros 0 (new_batch_bytes s n) (keystream v (64 * at) 96)) key;
            pos = w.pos_is;
            key = w.key ∙ ap (λ v. keystream v (64 * at + 96) 32) key;
            named = λ g. let name : HasName u.named.key = has_name x.named.key u.named.key v.name (h.named g).0 in
                (w.name name, inr (has_name u.named.key (after u es).named.batch_key w.batch_name name));
          } in m)

  -- the replay `x` with the entries of an attempt added matches the state after the attempt. The same is true of a call
  abbrev pub AttemptHolds : Both → Attempt → Type 0
  AttemptHolds x attempt = Holds (after x attempt.entries) attempt.state

  abbrev pub OutcomeHolds : Both → Outcome → Type 0
  OutcomeHolds x outcome = Holds (after x outcome.entries) outcome.state

  after_holds : (x : Both) (es : List VEntry) (attempt later : Attempt) →
      attempt ≡ record later { entries = es ++ later.entries } → AttemptHolds (after x es) later → AttemptHolds x attempt
  after_holds x es attempt later is h =
      let P : Attempt → Type 0 = λ a. AttemptHolds x a in
      let Q : Both → Type 0 = λ y. Holds y later.state in
      subst P (sym is) (subst Q (sym (fold-append step x es later.entries)) h)

  point_holds : (Before : Both → VgetrandomState → Type 0) → ((x : Both) → Before (step x Wipe) wiped_state) →
      (point : Point) (GoesOn : VgetrandomState → List HostStep → Attempt → Type 0) (x : Both)
      (s : VgetrandomState) (steps : List HostStep) (attempt : Attempt) →
      ((u : Both) (r : VgetrandomState) (rest : List HostStep) (later : Attempt) → Good lists rest →
      GoesOn r rest later → Before u r → AttemptHolds u later) →
      AtPoint point GoesOn s steps attempt → Good lists steps → Before x s → AttemptHolds x attempt
  point_holds Before wiped_before point GoesOn x s steps attempt on at good h =
      after_holds x (wipe_entry at.wiped) attempt at.attempt_after at.attempt_is (go at.wiped at.goes_on)
    where
      rest_good : Good lists at.rest
      rest_good = subst (λ (xs : List HostStep). Good lists xs) at.steps_are good

      go : (b : Bool) → GoesOn (state_left b s) at.rest at.attempt_after →
          AttemptHolds (after x (wipe_entry b)) at.attempt_after
      go false g = on x s at.rest at.attempt_after rest_good g h
      go true g = on (step x Wipe) wiped_state at.rest at.attempt_after rest_good g (wiped_before x)

  pub end_holds : (out : List ℕ) (c : ℕ) (x : Both) (s : VgetrandomState) (steps : List HostStep) (attempt : Attempt) →
      FromEnd out c s steps attempt → Holds x s → AttemptHolds x attempt
  end_holds out c x s steps attempt e h =
      let P : Attempt → Type 0 = λ a. AttemptHolds x a in subst P (sym e.attempt_is) h

  pub from_serve_holds : (n c : ℕ) → 1 ≤ n → (x : Both) (s : VgetrandomState) (steps : List HostStep) (attempt : Attempt) →
      Good lists steps → FromServe n c s steps attempt → Holds x s → AttemptHolds x attempt
  from_serve_holds n c some x s steps attempt good from h =
      after_holds x (copy_entries s c n) attempt from.attempt_after from.attempt_is
      (point_holds Holds wiped_holds End (FromEnd (copy_bytes s c n) (block_after_copy s c n))
      (after x (copy_entries s c n)) (state_after_copy s c n) steps from.attempt_after
      (λ u r rest later g e b. end_holds (copy_bytes s c n) (block_after_copy s c n) u r rest later e b)
      from.goes_on good (copy_holds x s c n some h))

  serve_point_holds : (n c : ℕ) → 1 ≤ n → (x : Both) (s : VgetrandomState) (steps : List HostStep)
      (attempt : Attempt) → Good lists steps → AtPoint ServePoint (FromServe n c) s steps attempt → Holds x s →
      AttemptHolds x attempt
  serve_point_holds n c some x s steps attempt good at h =
      point_holds Holds wiped_holds ServePoint (FromServe n c) x s steps attempt
      (λ u r rest later g f b. from_serve_holds n c some u r rest later g f b) at good h

  pub written_holds : (n c : ℕ) → 1 ≤ n → (x : Both) (s : VgetrandomState) (steps : List HostStep) (attempt : Attempt) →
      Good lists steps → FromWritten n c s steps attempt → Loose x s → AttemptHolds x attempt
  written_holds n c some x s steps attempt good from h =
      let g : Good lists (system_call 32 0 from.answer ∷ from.rest) =
      subst (λ (xs : List HostStep). Good lists xs) from.steps_are good in
      go from.answer (g.0 refl refl) g.1 from.goes_on
    where
      go : (answer : SystemAnswer) → KeyIs lists answer → Good lists from.rest →
          AfterKeyRead n c answer s from.rest attempt → AttemptHolds x attempt
      go (read key None) is g keyed = absurd is
      go (read key (Some at)) is g keyed =
          after_holds x (Rekey at.cpu at.place ∷ []) attempt keyed.attempt_after keyed.attempt_is
          (serve_point_holds n c some (step x (Rekey at.cpu at.place)) (record s { key = key; pos = 96 }) from.rest
          keyed.attempt_after g keyed.goes_on (record {
            batch = h.batch;
            pos = refl;
            key = sym is;
            named = λ some. ((Call (CpuLane at.cpu) at.place, refl), inl refl);
          }))
      go (failed errno) is g unkeyed = absurd is

  pub start_holds : (n c published : ℕ) → 1 ≤ n → (x : Both) (s : VgetrandomState) (steps : List HostStep)
      (attempt : Attempt) → Good lists steps → FromStart n c published s steps attempt → Holds x s →
      AttemptHolds x attempt
  start_holds n c published some x s steps attempt good from h =
      match_cases (AtPoint ServePoint (FromServe n c) s steps attempt)
      (AtPoint Written (FromWritten n c) (record s { generation = published }) steps attempt)
      (AttemptHolds x attempt) (s.generation == published)
      (λ is at. serve_point_holds n c some x s steps attempt good at h)
      (λ is at. point_holds Loose wiped_loose Written (FromWritten n c) x (record s { generation = published }) steps
      attempt (λ u r rest later g f b. written_holds n c some u r rest later g f b) at good
      (record { batch = h.batch; pos = h.pos }))
      from

  pub attempt_holds : (n c : ℕ) → 1 ≤ n → (x : Both) (s : VgetrandomState) (steps : List HostStep)
      (attempt : Attempt) → Good lists steps → IsAttempt n c s steps attempt → Holds x s → AttemptHolds x attempt
  attempt_holds n c some x s steps attempt good is h =
      let g : (1 ≤ is.published) × Good lists is.rest =
      subst (λ (xs : List HostStep). Good lists xs) is.steps_are good in
      point_holds Holds wiped_holds Start (FromStart n c is.published) x s is.rest attempt
      (λ u r rest later good f b. start_holds n c is.published some u r rest later good f b) is.goes_on g.1 h

  none_holds : (x : Both) (s : VgetrandomState) (outcome : Outcome) → outcome.entries ≡ [] → outcome.state ≡ s →
      Holds x s → OutcomeHolds x outcome
  none_holds x s outcome none same h =
      let P : List VEntry → Type 0 = λ es. Holds (after x es) outcome.state in
      let Q : VgetrandomState → Type 0 = λ v. Holds x v in
      subst P (sym none) (subst Q (sym same) h)

  system_holds : (n flags : ℕ) (x : Both) (s : VgetrandomState) (steps : List HostStep) (outcome : Outcome) →
      BySystem n flags s steps outcome → Holds x s → OutcomeHolds x outcome
  system_holds n flags x s steps outcome by h = none_holds x s outcome (ap (λ (o : Outcome). o.entries) by.outcome_is)
      (ap (λ (o : Outcome). o.state) by.outcome_is) h

  called_holds : (x : Both) (s : VgetrandomState) → Holds x s → Holds x (state_after_call s)
  called_holds x s h = record { batch = h.batch; pos = h.pos; key = h.key; named = h.named }

  tried_holds : (n flags c : ℕ) → 1 ≤ n → (Outdated : ℕ → VgetrandomState → List HostStep → Outcome → Type 0)
      (x : Both) (s : VgetrandomState) (steps : List HostStep) (outcome : Outcome) →
      ((u : Both) (c : ℕ) (v : VgetrandomState) (rest : List HostStep) (later : Outcome) → Good lists rest →
      Outdated c v rest later → Holds u v → OutcomeHolds u later) → Good lists steps →
      AttemptAndRest n flags Outdated (IsAttempt n c s) steps outcome → Holds x s → OutcomeHolds x outcome
  tried_holds n flags c some Outdated x s steps outcome goes_on good r h =
      let P : Outcome → Type 0 = λ o. OutcomeHolds x o in
      let Q : Both → Type 0 = λ y. Holds y r.outcome_after.state in
      let split : Good lists r.tried × Good lists r.rest = good_append lists r.tried r.rest
      (subst (λ (xs : List HostStep). Good lists xs) r.steps_are good) in
      subst P (sym r.outcome_is) (subst Q (sym (fold-append step x r.attempt.entries r.outcome_after.entries))
      (go r.attempt.end split.1 (attempt_holds n c some x s r.tried r.attempt split.0 r.tries h) r.goes_on))
    where
      u : Both
      u = after x r.attempt.entries

      go : (end : AttemptEnd) → Good lists r.rest → Holds u r.attempt.state →
          AfterAttempt n flags Outdated end r.attempt r.rest r.outcome_after → OutcomeHolds u r.outcome_after
      go holds g b by = none_holds u (state_after_call r.attempt.state) r.outcome_after
          (ap (λ (o : Outcome). o.entries) by.outcome_is) (ap (λ (o : Outcome). o.state) by.outcome_is)
          (called_holds u r.attempt.state b)
      go outdated g b by = goes_on u r.attempt.next_block r.attempt.state r.rest r.outcome_after g by b
      go not_keyed g b by = system_holds n flags u (state_after_call r.attempt.state) r.rest r.outcome_after by
          (called_holds u r.attempt.state b)

  second_holds : (n flags c : ℕ) → 1 ≤ n → (x : Both) (s : VgetrandomState) (steps : List HostStep)
      (outcome : Outcome) → Good lists steps → SecondAttempt n flags c s steps outcome → Holds x s →
      OutcomeHolds x outcome
  second_holds n flags c some x s steps outcome good second h =
      tried_holds n flags c some (AfterBoth n flags) x s steps outcome
      (λ u d v rest later g by b. system_holds n flags u (state_after_call v) rest later by (called_holds u v b))
      good second h

  -- if the steps are good, and the replay matches the state before a first attempt, it matches the state after the call
  pub first_holds : (n flags : ℕ) → 1 ≤ n → (x : Both) (s : VgetrandomState) (steps : List HostStep)
      (outcome : Outcome) → Good lists steps → FirstAttempt n flags s steps outcome → Holds x s →
      OutcomeHolds x outcome
  first_holds n flags some x s steps outcome good first h =
      tried_holds n flags 0 some (SecondAttempt n flags) x s steps outcome
      (λ u c v rest later g second b. second_holds n flags c some u v rest later g second b) good first h

  published_holds : (n flags published : ℕ) (x : Both) (s : VgetrandomState) (steps : List HostStep)
      (outcome : Outcome) → (1 ≤ published → Good lists steps) →
      FromPublished n flags s published steps outcome → Holds x s → OutcomeHolds x outcome
  published_holds n flags published x s steps outcome good from h =
      match_cases (BySystem n flags s steps outcome) _ (OutcomeHolds x outcome) (published == 0)
      (λ is by. system_holds n flags x s steps outcome by h)
      (λ is. match_cases (ByNothing s steps outcome) _ (OutcomeHolds x outcome) (n == 0)
      (λ zero by. none_holds x s outcome (ap (λ (o : Outcome). o.entries) by.outcome_is)
      (ap (λ (o : Outcome). o.state) by.outcome_is) h)
      (λ some. match_cases (BySystem n flags s steps outcome)
      (FirstAttempt n flags (record s { in_use = true }) steps outcome) (OutcomeHolds x outcome) s.in_use
      (λ inside by. system_holds n flags x s steps outcome by h)
      (λ outside first. first_holds n flags (some_bytes n some) x (record s { in_use = true }) steps outcome
      (good (some_bytes published is)) first
      (record { batch = h.batch; pos = h.pos; key = h.key; named = h.named }))))
      from

  -- if the first step publishes a generation of a ready core, then the later steps are good
  abbrev pub GoodAfter : List HostStep → Type 0
  GoodAfter steps = (g : ℕ) (rest : List HostStep) → steps ≡ publishes g ∷ rest → 1 ≤ g → Good lists rest

  pub call_holds : (n flags : ℕ) (x : Both) (s : VgetrandomState) (steps : List HostStep) (outcome : Outcome) →
      GoodAfter steps → IsCall n flags s steps outcome → Holds x s → OutcomeHolds x outcome
  call_holds n flags x s steps outcome good is h =
      match_cases (BySystem n flags s steps outcome) (FromLook n flags s steps outcome) (OutcomeHolds x outcome)
      (is_bad flags)
      (λ bad by. system_holds n flags x s steps outcome by h)
      (λ fine look. published_holds n flags look.published x s look.rest outcome
      (good look.published look.rest look.steps_are) look.goes_on h)
      is
