-- In a lawful transcript, the entries that the calls of a caller append to a vgetrandom state's list make a lawful
-- list.
use Rattle.std.proofs.Common.{◌≡◌, ℕ, zero, suc, ◌<◌, Bool, true, false, List, [], ◌∷◌, refl, sym, subst, ap, ◌∙◌, arith, Some, length, replicate}
use Rattle.std.specs.Prelude.{◌==◌, ◌&&◌, not, if◌then◌else◌, slice_get, slice_set, unwrap_or}
use Rattle.std.specs.List.{fold, AllByRecursion}
use Rattle.std.proofs.lemmas.Bool.{eqb-true, eq-eqb}
use Rattle.key_names.specs.declared.entries.VEntry.{VEntry}
use Rattle.key_names.specs.declared.events.Event.{Event}
use Rattle.key_names.specs.declared.events.Event.TheVariants.{Drop}
use Rattle.key_names.specs.Lanes.StateList.{NamedState, anything, state_start, state_step, TakesRead, LawfulStateList}
use Rattle.key_names.specs.Lanes.Book.{Lists, cpu_list}
use Rattle.key_names.specs.Callers.Calls.{Setting, Call, alone, vread_call, unbound, ending, BoundAct}
use Rattle.key_names.specs.Callers.Effects.{Effect, effects_of}
use Rattle.key_names.specs.Callers.Forms.{Looked}
use Rattle.key_names.specs.Transcripts.SeenLine.{SeenLine}
use Rattle.key_names.specs.Kernel.VgetrandomState.{VgetrandomState, wiped_state}
use Rattle.key_names.specs.Kernel.BatchCopy.{has_left, serves_locally, copy_entries, state_after_copy}
use Rattle.key_names.specs.Callers.VreadSteps.{published_by}
use Rattle.key_names.specs.Callers.Meaning.{CallerState, caller_start, CallMeaning, LineMeaning, AloneMeans, current_state, ByLocalCopy, ByVgetrandom, tries_local, LocalOrCall, VreadMeans, Means}
use Rattle.key_names.specs.Transcripts.IsTranscript.{CallsMean, EachOfCall, EachLine, entries_of_state, CallerMeans}
use Rattle.key_names.proofs.Vgetrandom.CopiesKeep.{Settled, Keeps, keeps_append}
use Rattle.key_names.proofs.Vgetrandom.CallsKeep.{match_cases, call_keeps, wipe_keeps, local_keeps, lawful_list}
use Rattle.key_names.proofs.Lists.Each.{each_append}
use Rattle.key_names.proofs.Vgetrandom.KeyReads.{copy_names, call_names}
use Rattle.key_names.proofs.Transcripts.KeyVisits.{AllThere, all_there, key_reads}

-- if element `i` of `xs` is set to `x`, then element `i` is `x`
pub set_here : {A : Type 0} (xs : List A) (i : ℕ) (x : A) → i < length xs → slice_get (slice_set xs i x) i ≡ Some x
set_here [] i x lt = absurd (omega arith)
set_here (y ∷ ys) zero x lt = refl
set_here (y ∷ ys) (suc i) x lt = set_here ys i x (omega arith)

pub set_other : {A : Type 0} (xs : List A) (i k : ℕ) (x : A) → (i ≡ k → ⊥) → slice_get (slice_set xs i x) k ≡ slice_get xs k
set_other [] i k x ne = refl
set_other (y ∷ ys) zero zero x ne = absurd (ne refl)
set_other (y ∷ ys) zero (suc k) x ne = refl
set_other (y ∷ ys) (suc i) zero x ne = refl
set_other (y ∷ ys) (suc i) (suc k) x ne = set_other ys i k x (λ e. ne (ap suc e))

pub length_set : {A : Type 0} (xs : List A) (i : ℕ) (x : A) → length (slice_set xs i x) ≡ length xs
length_set [] i x = refl
length_set (y ∷ ys) zero x = refl
length_set (y ∷ ys) (suc i) x = ap suc (length_set ys i x)

-- the caller's vgetrandom state with the number k
abbrev pub state_at : CallerState → ℕ → VgetrandomState
state_at s k = unwrap_or (slice_get s.states k) wiped_state

module _ (lists : Lists) (caller k : ℕ) (below : k < 16) where
  abbrev Reads : List VEntry → Type 0
  Reads es = AllByRecursion (TakesRead (cpu_list lists)) es

  -- after a call, state k is settled (it matches its list, `Settled`). If state k was the current state, the call's
  -- entries keep that state's list in order; otherwise the list gets no entry
  record Leaves (t : NamedState) (m : CallMeaning) : Type 0 where
    length_is : length m.after.states ≡ 16
    keeps : Keeps caller k (λ u. Settled u (state_at m.after k)) t
        (if m.before.current == k then m.entries else [])
    reads : Reads m.entries

  -- if state k was settled, and a call changes no state and has no entry, then `Leaves` holds
  same_states : (t : NamedState) (m : CallMeaning) → length m.before.states ≡ 16 → Settled t (state_at m.before k) →
      m.entries ≡ [] → m.after.states ≡ m.before.states → Leaves t m
  same_states t m len h none same = record {
    length_is = ap length same ∙ len;
    keeps = go (m.before.current == k);
    reads = subst Reads (sym none) tt;
  }
    where
      after : Settled t (state_at m.after k)
      after = let P : List VgetrandomState → Type 0 = λ xs. Settled t (unwrap_or (slice_get xs k) wiped_state) in
          subst P (sym same) h

      empty : Keeps caller k (λ u. Settled u (state_at m.after k)) t []
      empty = record { lawful = tt; after = after }

      go : (b : Bool) → Keeps caller k (λ u. Settled u (state_at m.after k)) t
          (if b then m.entries else [])
      go true = let P : List VEntry → Type 0 = λ es. Keeps caller k
          (λ u. Settled u (state_at m.after k)) t es in subst P (sym none) empty
      go false = empty

  -- let state k be settled before a call that replaces only the current state. If the call's entries keep the list of
  -- the current state in order, and take reads of 32 bytes, then `Leaves` holds
  set_state : (t : NamedState) (m : CallMeaning) (x : VgetrandomState) → length m.before.states ≡ 16 →
      Settled t (state_at m.before k) →
      m.after.states ≡ slice_set m.before.states m.before.current x →
      ((m.before.current ≡ k) → Keeps caller k (λ u. Settled u x) t m.entries) → Reads m.entries → Leaves t m
  set_state t m x len h after keeps reads = record {
    length_is = ap length after ∙ length_set m.before.states m.before.current x ∙ len;
    keeps = go (m.before.current == k) refl;
    reads = reads;
  }
    where
      go : (b : Bool) → (m.before.current == k) ≡ b →
          Keeps caller k (λ u. Settled u (state_at m.after k)) t (if b then m.entries else [])
      go true is =
          let same : m.before.current ≡ k = eqb-true m.before.current k is in
          let new : state_at m.after k ≡ x =
          ap (λ xs. unwrap_or (slice_get xs k) wiped_state) (after ∙ ap (λ i. slice_set m.before.states i x) same)
          ∙ ap (λ o. unwrap_or o wiped_state) (set_here m.before.states k x (omega arith)) in
          let P : VgetrandomState → Type 0 = λ y. Keeps caller k (λ u. Settled u y) t m.entries in
          subst P (sym new) (keeps same)
      go false is =
          let old : state_at m.after k ≡ state_at m.before k =
          ap (λ xs. unwrap_or (slice_get xs k) wiped_state) after
          ∙ ap (λ o. unwrap_or o wiped_state)
          (set_other m.before.states m.before.current k x
          (λ e. let yes : (m.before.current == k) ≡ true = eq-eqb m.before.current k e in cc)) in
          let P : VgetrandomState → Type 0 = λ y. Settled t y in record { lawful = tt; after = subst P (sym old) h }

  current_is : (m : CallMeaning) → m.before.current ≡ k → current_state m.before ≡ state_at m.before k
  current_is m same = ap (λ i. unwrap_or (slice_get m.before.states i) wiped_state) same

  settled_current : (t : NamedState) (m : CallMeaning) → m.before.current ≡ k → Settled t (state_at m.before k) →
      Settled t (current_state m.before)
  settled_current t m same h = let P : VgetrandomState → Type 0 = λ x. Settled t x in
      subst P (sym (current_is m same)) h

  alone_leaves : (t : NamedState) (event : Event) (m : CallMeaning) → length m.before.states ≡ 16 →
      Settled t (state_at m.before k) →
      AloneMeans event m → Leaves t m
  alone_leaves t Drop m len h means = set_state t m wiped_state len h (ap (λ (s : CallerState). s.states) means.after)
      (λ same. let P : List VEntry → Type 0 = λ es. Keeps caller k (λ u. Settled u wiped_state) t es in
      subst P (sym means.entries) (wipe_keeps caller k t (state_at m.before k) h))
      (subst Reads (sym means.entries) (tt, tt))
  alone_leaves t _ m len h means =
      same_states t m len h means.entries (ap (λ (s : CallerState). s.states) means.after)

  vgetrandom_leaves : (t : NamedState) (n flags : ℕ) (acts : List BoundAct) (m : CallMeaning) →
      length m.before.states ≡ 16 →
      Settled t (state_at m.before k) → AllThere lists m.own.effects → ByVgetrandom n flags acts m → Leaves t m
  vgetrandom_leaves t n flags acts m len h there by = set_state t m by.outcome.state len h
      (ap (λ (s : CallerState). s.states) by.after)
      (λ same. let P : List VEntry → Type 0 = λ es. Keeps caller k (λ u. Settled u by.outcome.state)
      t es in
      subst P (sym by.entries) (call_keeps caller k n flags t (current_state m.before)
      by.steps by.outcome by.is_call (settled_current t m same h)))
      (subst Reads (sym by.entries) (call_names (cpu_list lists) n flags (current_state m.before) by.steps by.outcome
      (key_reads lists m.before.setting by.steps m.own.effects there by.shows) by.is_call))

  and_right : (a b : Bool) → (a && b) ≡ true → b ≡ true
  and_right true b h = h
  and_right false b h = cc

  local_leaves : (t : NamedState) (n look : ℕ) (rest : List Effect) (m : CallMeaning) → length m.before.states ≡ 16 →
      Settled t (state_at m.before k) → serves_locally (published_by look) (current_state m.before) n ≡ true →
      ByLocalCopy n rest m → Leaves t m
  local_leaves t n look rest m len h serves by =
      set_state t m (state_after_copy (current_state m.before) 0 n) len h (ap (λ (s : CallerState). s.states) by.after)
      (λ same. let P : List VEntry → Type 0 = λ es. Keeps caller k
      (λ u. Settled u (state_after_copy (current_state m.before) 0 n)) t es in
      subst P (sym by.entries) (copied (current_state m.before) (settled_current t m same h) left))
      (subst Reads (sym by.entries) (copy_names (cpu_list lists) (current_state m.before) 0 n))
    where
      left : has_left (current_state m.before) n ≡ true
      left =
          let s : VgetrandomState = current_state m.before in let g : ℕ = published_by look in
          and_right (not s.in_use) (has_left s n) (and_right (g == s.generation) (not s.in_use && has_left s n)
          (and_right (not (g == 0)) (g == s.generation && (not s.in_use && has_left s n)) serves))

      copied : (s : VgetrandomState) → Settled t s → has_left s n ≡ true →
          Keeps caller k (λ u. Settled u (state_after_copy s 0 n)) t (copy_entries s 0 n)
      copied s settled is = rw is (local_keeps caller k t s n is settled)

  vread_leaves : (t : NamedState) (n flags : ℕ) (acts : List BoundAct) (m : CallMeaning) → length m.before.states ≡ 16 →
      Settled t (state_at m.before k) → AllThere lists m.own.effects → VreadMeans n flags acts m → Leaves t m
  vread_leaves t n flags acts m len h there means =
      match_cases (Looked (LocalOrCall n flags acts m) m.own.effects) (ByVgetrandom n flags acts m) (Leaves t m)
      (tries_local n flags acts)
      (λ tries looked. match_cases (ByLocalCopy n looked.1 m) (ByVgetrandom n flags acts m) (Leaves t m)
      (serves_locally (published_by looked.0) (current_state m.before) n)
      (λ serves by. local_leaves t n looked.0 looked.1 m len h serves by)
      (λ not_served by. vgetrandom_leaves t n flags acts m len h there by) looked.3)
      (λ no by. vgetrandom_leaves t n flags acts m len h there by)
      means.done_by

  there_in : (line : SeenLine) (m : LineMeaning) → effects_of lists line.steps ≡ m.effects → AllThere lists m.effects
  there_in line m is = let P : List Effect → Type 0 = λ ds. AllThere lists ds in subst P is (all_there lists line.steps)

  call_leaves : (t : NamedState) (call : Call) (m : CallMeaning) → length m.before.states ≡ 16 →
      Settled t (state_at m.before k) →
      EachOfCall (λ line m. effects_of lists line.steps ≡ m.effects) call m → Means call m → Leaves t m
  call_leaves t (alone event line) m len h effects means = alone_leaves t event m len h means
  call_leaves t (vread_call n flags line acts) m len h effects means = vread_leaves t n flags acts m len h
      (there_in line m.own effects.0) means
  call_leaves t (unbound bound) m len h effects means = same_states t m len h means.entries
      (ap (λ (s : CallerState). s.states) means.after)
  call_leaves t (ending line) m len h effects means = same_states t m len h means.entries
      (ap (λ (s : CallerState). s.states) means.after)

  -- the entries that some calls append to the list of state k keep the list in order, and take reads of 32 bytes
  record CallsLeave (t : NamedState) (es : List VEntry) : Type 0 where
    keeps : Keeps caller k (λ u. u.expected ≡ anything) t es
    reads : Reads es

  reads_if : (b : Bool) (es : List VEntry) → Reads es → Reads (if b then es else [])
  reads_if true es reads = reads
  reads_if false es reads = tt

  calls_leave : (t : NamedState) (s : CallerState) (calls : List Call) (ms : List CallMeaning) →
      length s.states ≡ 16 → Settled t (state_at s k) →
      EachLine (λ line m. effects_of lists line.steps ≡ m.effects) calls ms → CallsMean s calls ms →
      CallsLeave t (entries_of_state k ms)
  calls_leave t s [] [] len h effects mean = record { keeps = record { lawful = tt; after = h.expects }; reads = tt }
  calls_leave t s [] (m ∷ ms) len h effects mean = absurd mean
  calls_leave t s (call ∷ calls) [] len h effects mean = absurd mean
  calls_leave t s (call ∷ calls) (m ∷ ms) len h effects mean =
      let P : CallerState → Type 0 = λ x. Settled t (state_at x k) in
      let es : List VEntry = if m.before.current == k then m.entries else [] in
      let leaves : Leaves t m = call_leaves t call m (ap (λ (x : CallerState). length x.states) mean.0 ∙ len)
      (subst P (sym mean.0) h) effects.0 mean.1 in
      let rest : CallsLeave (fold (state_step caller k) t es) (entries_of_state k ms) =
      calls_leave (fold (state_step caller k) t es) m.after calls ms leaves.length_is leaves.keeps.after effects.1 mean.2
      in
      record {
        keeps = keeps_append caller k (λ u. u.expected ≡ anything) t es (entries_of_state k ms)
            (record { lawful = leaves.keeps.lawful; after = rest.keeps });
        reads = each_append (TakesRead (cpu_list lists)) es (entries_of_state k ms)
            (reads_if (m.before.current == k) m.entries leaves.reads) rest.reads;
      }

  start_settled : (setting : Setting) → Settled state_start (state_at (caller_start setting) k)
  start_settled setting = record
      { same_pos = rw fresh refl; within = rw fresh (omega arith); expects = refl; zeros = rw fresh refl }
    where
      fresh_at : (n i : ℕ) → unwrap_or (slice_get (replicate n wiped_state) i) wiped_state ≡ wiped_state
      fresh_at zero i = refl
      fresh_at (suc n) zero = refl
      fresh_at (suc n) (suc i) = fresh_at n i

      fresh : state_at (caller_start setting) k ≡ wiped_state
      fresh = fresh_at 16 k

  pub caller_keeps : (setting : Setting) (calls : List Call) (ms : List CallMeaning) →
      CallerMeans lists setting calls ms →
      LawfulStateList (cpu_list lists) caller k (entries_of_state k ms)
  caller_keeps setting calls ms means =
      let m = calls_leave state_start (caller_start setting) calls ms refl (start_settled setting) means.effects
      means.follows in
      lawful_list (cpu_list lists) caller k (entries_of_state k ms)
      (record { comes = m.keeps.lawful; ends = m.keeps.after }) m.reads
