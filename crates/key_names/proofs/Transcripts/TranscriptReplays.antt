-- In a lawful transcript each vgetrandom state holds what a replay of its list of entries gives.
use Rattle.std.proofs.Common.{◌≡◌, ℕ, zero, suc, ◌<◌, ◌≤◌, Bool, true, false, List, [], ◌∷◌, refl, sym, subst, ap, ◌∙◌, arith, length, take, replicate}
use Rattle.std.specs.Prelude.{◌==◌, ◌&&◌, not, if◌then◌else◌, slice_get, slice_set, unwrap_or}
use Rattle.std.specs.List.{fold}
use Rattle.std.proofs.Math.Seq.{take-length}
use Rattle.std.proofs.lemmas.Bool.{eqb-true, eq-eqb}
use Rattle.std.proofs.lemmas.List.Sums.{fold-append}
use Rattle.key_names.specs.declared.entries.VEntry.{VEntry}
use Rattle.key_names.specs.declared.events.Event.{Event}
use Rattle.key_names.specs.declared.events.Event.TheVariants.{Drop}
use Rattle.key_names.specs.Lanes.StateList.{state_start, state_step}
use Rattle.key_names.specs.Keys.LiveMaterial.{StateBytes, state_bytes_start, state_bytes_step}
use Rattle.key_names.specs.Keys.KeyInUse.{state_value_step}
use Rattle.key_names.specs.Lanes.Book.{Lists, lists_of}
use Rattle.key_names.specs.Callers.Calls.{Setting, Call, alone, vread_call, unbound, ending, BoundAct}
use Rattle.key_names.specs.Callers.Effects.{Effect, effects_of}
use Rattle.key_names.specs.Callers.Forms.{Looked}
use Rattle.key_names.specs.Transcripts.SeenLine.{SeenLine}
use Rattle.key_names.specs.Kernel.VgetrandomState.{VgetrandomState, wiped_state}
use Rattle.key_names.specs.Kernel.BatchCopy.{serves_locally, state_after_copy}
use Rattle.key_names.specs.Callers.VreadSteps.{published_by, NeverFall, looks_of}
use Rattle.key_names.specs.Callers.Meaning.{CallerState, caller_start, CallMeaning, LineMeaning, AloneMeans, current_state, ByLocalCopy, ByVgetrandom, tries_local, LocalOrCall, VreadMeans, Means}
use Rattle.key_names.specs.Transcripts.IsTranscript.{CallsMean, EachOfCall, EachLine, EachCaller, entries_of_state, CallerMeans, start_setting, script_calls}
use Rattle.key_names.specs.Transcripts.StatesReplayed.{state_number, caller_end, IsNamed, IsReplayed, StatesReplayed, StatesAreReplayed}
use Rattle.key_names.proofs.Vgetrandom.CallsKeep.{match_cases, some_bytes}
use Rattle.key_names.proofs.Transcripts.TranscriptStates.{set_here, set_other, length_set}
use Rattle.key_names.proofs.Transcripts.TranscriptBooks.{HasStates, all_states, later_states, own_list}
use Rattle.key_names.proofs.Transcripts.GoodSteps.{good_after}
use Rattle.key_names.proofs.Transcripts.KeyVisits.{AllThere, all_there}
use Rattle.key_names.proofs.Vgetrandom.StatesReplay as replay

-- a replay of keys and batches gives the same key as a replay of keys alone
pub bytes_key : (lists : Lists) (b : StateBytes) (es : List VEntry) →
    (fold (state_bytes_step lists) b es).key ≡ fold (state_value_step lists) b.key es
bytes_key lists b [] = refl
bytes_key lists b (e ∷ es) = bytes_key lists (state_bytes_step lists b e) es

module _ (lists : Lists) (caller k : ℕ) (below : k < 16) where
  abbrev Both : Type 0
  Both = replay.Both lists caller k

  abbrev after : Both → List VEntry → Both
  after = replay.after lists caller k

  abbrev Holds : Both → VgetrandomState → Type 0
  Holds = replay.Holds lists caller k

  -- extend the replay `x` by the call's entries for state `k`. Then state `k` matches it after the call with the
  -- meaning `m`
  pub record Leaves (x : Both) (m : CallMeaning) : Type 0 where
    pub length_is : length m.after.states ≡ 16
    pub holds : Holds (after x (if m.before.current == k then m.entries else [])) (state_number k m.after)

  same_holds : (x : Both) (m : CallMeaning) → length m.before.states ≡ 16 → Holds x (state_number k m.before) →
      m.entries ≡ [] → m.after.states ≡ m.before.states → Leaves x m
  same_holds x m len h none same =
      record { length_is = ap length same ∙ len; holds = go (m.before.current == k) }
    where
      kept : Holds x (state_number k m.after)
      kept = let P : List VgetrandomState → Type 0 = λ xs. Holds x (unwrap_or (slice_get xs k) wiped_state) in
          subst P (sym same) h

      go : (b : Bool) → Holds (after x (if b then m.entries else [])) (state_number k m.after)
      go true = let P : List VEntry → Type 0 = λ es. Holds (after x es) (state_number k m.after) in
          subst P (sym none) kept
      go false = kept

  set_state : (x : Both) (m : CallMeaning) (v : VgetrandomState) → length m.before.states ≡ 16 →
      Holds x (state_number k m.before) → m.after.states ≡ slice_set m.before.states m.before.current v →
      ((m.before.current ≡ k) → Holds (after x m.entries) v) → Leaves x m
  set_state x m v len h set holds = record {
    length_is = ap length set ∙ length_set m.before.states m.before.current v ∙ len;
    holds = go (m.before.current == k) refl;
  }
    where
      go : (b : Bool) → (m.before.current == k) ≡ b →
          Holds (after x (if b then m.entries else [])) (state_number k m.after)
      go true is =
          let same : m.before.current ≡ k = eqb-true m.before.current k is in
          let new : state_number k m.after ≡ v =
          ap (λ xs. unwrap_or (slice_get xs k) wiped_state) (set ∙ ap (λ i. slice_set m.before.states i v) same)
          ∙ ap (λ o. unwrap_or o wiped_state) (set_here m.before.states k v (omega arith)) in
          let P : VgetrandomState → Type 0 = λ y. Holds (after x m.entries) y in subst P (sym new) (holds same)
      go false is =
          let old : state_number k m.after ≡ state_number k m.before =
          ap (λ xs. unwrap_or (slice_get xs k) wiped_state) set
          ∙ ap (λ o. unwrap_or o wiped_state)
          (set_other m.before.states m.before.current k v
          (λ e. let yes : (m.before.current == k) ≡ true = eq-eqb m.before.current k e in cc)) in
          let P : VgetrandomState → Type 0 = λ y. Holds x y in subst P (sym old) h

  pub current_holds : (x : Both) (m : CallMeaning) → m.before.current ≡ k → Holds x (state_number k m.before) →
      Holds x (current_state m.before)
  current_holds x m same h =
      let P : ℕ → Type 0 = λ i. Holds x (unwrap_or (slice_get m.before.states i) wiped_state) in subst P (sym same) h

  alone_holds : (x : Both) (event : Event) (m : CallMeaning) → length m.before.states ≡ 16 →
      Holds x (state_number k m.before) → AloneMeans event m → Leaves x m
  alone_holds x Drop m len h means = set_state x m wiped_state len h (ap (λ (s : CallerState). s.states) means.after)
      (λ same. let P : List VEntry → Type 0 = λ es. Holds (after x es) wiped_state in
      subst P (sym means.entries) (replay.wiped_holds lists caller k x))
  alone_holds x _ m len h means =
      same_holds x m len h means.entries (ap (λ (s : CallerState). s.states) means.after)

  vgetrandom_holds : (x : Both) (n flags : ℕ) (acts : List BoundAct) (m : CallMeaning) →
      length m.before.states ≡ 16 → Holds x (state_number k m.before) → AllThere lists m.own.effects →
      NeverFall (looks_of m.own.effects) → ByVgetrandom n flags acts m → Leaves x m
  vgetrandom_holds x n flags acts m len h there rising by = set_state x m by.outcome.state len h
      (ap (λ (s : CallerState). s.states) by.after)
      (λ same. let P : List VEntry → Type 0 = λ es. Holds (after x es) by.outcome.state in
      subst P (sym by.entries) (replay.call_holds lists caller k n flags x (current_state m.before) by.steps by.outcome
      (good_after lists m.before.setting by.steps m.own.effects there rising by.shows) by.is_call
      (current_holds x m same h)))

  pub and_left : (a b : Bool) → (a && b) ≡ true → a ≡ true
  and_left true b h = refl
  and_left false b h = cc

  pub and_right : (a b : Bool) → (a && b) ≡ true → b ≡ true
  and_right true b h = h
  and_right false b h = cc

  pub not_true : (b : Bool) → not b ≡ true → b ≡ false
  not_true true h = cc
  not_true false h = refl

  -- let state `k` match the replay `x`. `Leaves` holds after a vread that a copy served without a vgetrandom call
  local_holds : (x : Both) (n : ℕ) (rest : List Effect) (m : CallMeaning) → 1 ≤ n → length m.before.states ≡ 16 →
      Holds x (state_number k m.before) → ByLocalCopy n rest m → Leaves x m
  local_holds x n rest m some len h by =
      let s : VgetrandomState = current_state m.before in
      set_state x m (state_after_copy s 0 n) len h (ap (λ (s : CallerState). s.states) by.after)
      (λ same. let P : List VEntry → Type 0 = λ es. Holds (after x es) (state_after_copy s 0 n) in
      subst P (sym by.entries) (replay.copy_holds lists caller k x s 0 n some (current_holds x m same h)))

  pub wants_bytes : (n flags : ℕ) (acts : List BoundAct) → tries_local n flags acts ≡ true → 1 ≤ n
  wants_bytes n flags acts tries =
      some_bytes n (not_true (n == 0) (and_left (not (n == 0)) _ (and_right (length acts == 0) _ tries)))

  vread_holds : (x : Both) (n flags : ℕ) (acts : List BoundAct) (m : CallMeaning) → length m.before.states ≡ 16 →
      Holds x (state_number k m.before) → AllThere lists m.own.effects → VreadMeans n flags acts m → Leaves x m
  vread_holds x n flags acts m len h there means =
      match_cases (Looked (LocalOrCall n flags acts m) m.own.effects) (ByVgetrandom n flags acts m) (Leaves x m)
      (tries_local n flags acts)
      (λ tries looked. match_cases (ByLocalCopy n looked.1 m) (ByVgetrandom n flags acts m) (Leaves x m)
      (serves_locally (published_by looked.0) (current_state m.before) n)
      (λ serves by. local_holds x n looked.1 m (wants_bytes n flags acts tries) len h by)
      (λ not_served by. vgetrandom_holds x n flags acts m len h there means.looks by) looked.3)
      (λ no by. vgetrandom_holds x n flags acts m len h there means.looks by)
      means.done_by

  pub there_in : (line : SeenLine) (m : LineMeaning) → effects_of lists line.steps ≡ m.effects → AllThere lists m.effects
  there_in line m is = let P : List Effect → Type 0 = λ ds. AllThere lists ds in subst P is (all_there lists line.steps)

  pub call_leaves : (x : Both) (call : Call) (m : CallMeaning) → length m.before.states ≡ 16 →
      Holds x (state_number k m.before) →
      EachOfCall (λ line m. effects_of lists line.steps ≡ m.effects) call m → Means call m → Leaves x m
  call_leaves x (alone event line) m len h effects means = alone_holds x event m len h means
  call_leaves x (vread_call n flags line acts) m len h effects means = vread_holds x n flags acts m len h
      (there_in line m.own effects.0) means
  call_leaves x (unbound bound) m len h effects means = same_holds x m len h means.entries
      (ap (λ (s : CallerState). s.states) means.after)
  call_leaves x (ending line) m len h effects means = same_holds x m len h means.entries
      (ap (λ (s : CallerState). s.states) means.after)

  -- after the first `j` calls, state `k` matches the replay of the state's entries
  calls_hold : (j : ℕ) (x : Both) (s : CallerState) (calls : List Call) (ms : List CallMeaning) →
      length s.states ≡ 16 → Holds x (state_number k s) →
      EachLine (λ line m. effects_of lists line.steps ≡ m.effects) calls ms → CallsMean s calls ms →
      Holds (after x (entries_of_state k (take j ms))) (state_number k (caller_end s (take j ms)))
  calls_hold zero x s calls ms len h effects mean = h
  calls_hold (suc j) x s calls [] len h effects mean = h
  calls_hold (suc j) x s [] (m ∷ ms) len h effects mean = absurd mean
  calls_hold (suc j) x s (call ∷ calls) (m ∷ ms) len h effects mean =
      let P : CallerState → Type 0 = λ v. Holds x (state_number k v) in
      let es : List VEntry = if m.before.current == k then m.entries else [] in
      let leaves : Leaves x m = call_leaves x call m (ap (λ (v : CallerState). length v.states) mean.0 ∙ len)
      (subst P (sym mean.0) h) effects.0 mean.1 in
      let Q : Both → Type 0 = λ y. Holds y (state_number k (caller_end m.after (take j ms))) in
      subst Q (sym (fold-append (replay.step lists caller k) x es (entries_of_state k (take j ms))))
      (calls_hold j (after x es) m.after calls ms leaves.length_is leaves.holds effects.1 mean.2)

  -- the names and bytes with which a replay begins: those of a state before its first entry
  abbrev pub start : Both
  start = record { named = state_start; bytes = state_bytes_start }

  pub named_is : (x : Both) (es : List VEntry) → (after x es).named ≡ fold (state_step caller k) x.named es
  named_is x [] = refl
  named_is x (e ∷ es) = named_is (replay.step lists caller k x e) es

  pub bytes_is : (x : Both) (es : List VEntry) → (after x es).bytes ≡ fold (state_bytes_step lists) x.bytes es
  bytes_is x [] = refl
  bytes_is x (e ∷ es) = bytes_is (replay.step lists caller k x e) es

  replayed : (es : List VEntry) (s : VgetrandomState) → Holds (after start es) s → IsReplayed lists caller k es s
  replayed es s h = record {
    batch = sym h.batch ∙ ap (λ (b : StateBytes). b.batch) (bytes_is start es);
    pos = sym h.pos ∙ ap (λ t. t.pos) (named_is start es);
    key = sym h.key ∙ ap (λ (b : StateBytes). b.key) (bytes_is start es) ∙ bytes_key lists state_bytes_start es;
    named = λ g. subst IsNamed (named_is start es) (h.named g);
  }

  pub start_holds : (setting : Setting) → Holds start (state_number k (caller_start setting))
  start_holds setting =
      let P : VgetrandomState → Type 0 = λ v. Holds start v in subst P (sym (fresh_at 16 k)) fresh
    where
      fresh_at : (n i : ℕ) → unwrap_or (slice_get (replicate n wiped_state) i) wiped_state ≡ wiped_state
      fresh_at zero i = refl
      fresh_at (suc n) zero = refl
      fresh_at (suc n) (suc i) = fresh_at n i

      fresh : Holds start wiped_state
      fresh = record { batch = refl; pos = refl; key = refl; named = λ g. absurd (omega arith) }

  pub state_replayed : (setting : Setting) (calls : List Call) (ms : List CallMeaning) (j : ℕ) →
      CallerMeans lists setting calls ms →
      IsReplayed lists caller k (entries_of_state k (take j ms))
      (state_number k (caller_end (caller_start setting) (take j ms)))
  state_replayed setting calls ms j means =
      replayed (entries_of_state k (take j ms)) _
      (calls_hold j start (caller_start setting) calls ms refl (start_holds setting) means.effects means.follows)

each_replayed : (lists : Lists) (settings : ℕ → Setting) (c : ℕ) (callers : List (List Call))
    (mss : List (List CallMeaning)) → HasStates lists c mss →
    EachCaller (λ c calls ms. CallerMeans lists (settings c) calls ms) c callers mss →
    EachCaller (λ c calls ms. StatesReplayed lists c (settings c) ms) c callers mss
each_replayed lists settings c [] [] has each = tt
each_replayed lists settings c [] (ms ∷ mss) has each = absurd each
each_replayed lists settings c (calls ∷ callers) [] has each = absurd each
each_replayed lists settings c (calls ∷ callers) (ms ∷ mss) has each = (
  record {
    between = λ k j below. state_replayed lists c k below (settings c) calls ms j each.0;
    ends = λ k below.
        let all : take (length ms) ms ≡ ms = take-length ms in
        let P : List CallMeaning → Type 0 = λ xs. IsReplayed lists c k (entries_of_state k xs)
        (state_number k (caller_end (caller_start (settings c)) xs)) in
        let Q : List VEntry → Type 0 = λ es. IsReplayed lists c k es
        (state_number k (caller_end (caller_start (settings c)) ms)) in
        subst Q (sym (own_list lists c ms mss has k below))
        (subst P all (state_replayed lists c k below (settings c) calls ms (length ms) each.0));
  },
  each_replayed lists settings (suc c) callers mss (later_states lists c ms mss has) each.1,
)

pub states_are_replayed : StatesAreReplayed
states_are_replayed script t book ms is =
    each_replayed (lists_of book) (start_setting (script_calls script t)) 0 (script_calls script t) ms
    (all_states (lists_of book) ms is.forms.states) is.forms.callers
