-- The law `CallsLeave`: whatever meanings a caller's calls have, `lists_left` gives the lists of these meanings.
use Rattle.std.proofs.Common.{◌≡◌, ℕ, zero, suc, ◌<◌, ◌≤◌, Bool, true, false, List, [], ◌∷◌, ◌++◌, map, refl, sym, subst, ap, ◌∙◌, arith, length, replicate}
use Rattle.std.specs.Prelude.{◌==◌, if◌then◌else◌, slice_get, slice_set, unwrap_or, nat_lt}
use Rattle.std.proofs.lemmas.Bool.Decides.{nat_tests}
use Rattle.std.proofs.lemmas.Option.{slice_get_past}
use Rattle.std.specs.List.{range_with_len}
use Rattle.std.proofs.lemmas.Bool.{eqb-true, eq-eqb}
use Rattle.key_names.specs.declared.events.Event.{Event}
use Rattle.key_names.specs.declared.events.Event.TheVariants.{Drop, State}
use Rattle.key_names.specs.Lanes.Book.{Lists}
use Rattle.key_names.specs.Callers.Calls.{Setting, Call, alone, vread_call, unbound, ending}
use Rattle.key_names.specs.Callers.Effects.{effects_of}
use Rattle.key_names.specs.Transcripts.SeenLine.{SeenLine}
use Rattle.key_names.specs.Kernel.VgetrandomState.{VgetrandomState, wiped_state}
use Rattle.key_names.specs.Callers.Meaning.{CallerState, caller_start, CallMeaning, current_state, Means, LineMeaning, AloneMeans}
use Rattle.key_names.specs.Transcripts.IsTranscript.{CallsMean, EachOfCall, EachLine, entries_of_state, CallerMeans, EachCaller, state_lists}
use Rattle.key_names.proofs.Transcripts.TranscriptStates.{state_at, set_here, set_other, length_set}
use Rattle.audit_keys.specs.declared.outline.Outline.{Outline}
use Rattle.audit_keys.specs.Outline.{wiped_outline, IsBetweenCalls}
use Rattle.audit_keys.specs.Left.{nothing_left}
use Rattle.audit_keys.specs.Callers.{Outlines, first_outlines, current_outline, with_outline, outlines_after_event, outlines_after, entries_of_event, entries_left, left_in, list_left, lists_left}
use Rattle.audit_keys.specs.Laws.{CallsLeave}
use Rattle.audit_keys.proofs.VreadsLeave.{vread_leaves}

abbrev pub outline_at : Outlines → ℕ → Outline
outline_at o k = unwrap_or (slice_get o.each k) wiped_outline

-- `o` has the outline of each of the caller's vgetrandom states, and the number of the current state
pub record Conforms (o : Outlines) (c : CallerState) : Type 0 where
  pub count : length o.each ≡ 16
  pub states : length c.states ≡ 16
  pub current : o.current ≡ c.current
  pub each : (k : ℕ) → k < 16 → IsBetweenCalls (outline_at o k) (state_at c k)

-- after `call` the outlines match the caller's states, and the call left the entries of its meaning `m`
pub record Goes (o : Outlines) (call : Call) (m : CallMeaning) : Type 0 where
  pub conforms : Conforms (outlines_after o call) m.after
  pub entries : entries_left o call ≡ m.entries

conforms_as : {l l' : Outline} {x x' : VgetrandomState} → l ≡ l' → x ≡ x' → IsBetweenCalls l' x' → IsBetweenCalls l x
conforms_as {l = l} {l' = l'} {x = x} {x' = x'} p q is =
    let P : Outline → Type 0 = λ y. IsBetweenCalls y x in
    let Q : VgetrandomState → Type 0 = λ y. IsBetweenCalls l' y in subst P (sym p) (subst Q (sym q) is)

wiped_conforms : IsBetweenCalls wiped_outline wiped_state
wiped_conforms = record { outline = record { generation = refl; served = refl }; idle = refl }

-- if a call changes no state and no outline, the outlines still match the states
same_conforms : (o p : Outlines) (c d : CallerState) → Conforms o c → p.each ≡ o.each → d.states ≡ c.states →
    p.current ≡ d.current → Conforms p d
same_conforms o p c d st outlines states current = record {
  count = ap length outlines ∙ st.count;
  states = ap length states ∙ st.states;
  current = current;
  each = λ k below.
      conforms_as (ap (λ x. unwrap_or (slice_get x k) wiped_outline) outlines)
      (ap (λ x. unwrap_or (slice_get x k) wiped_state) states) (st.each k below);
}

-- if a call gives the current state and its outline new values that match, all outlines still match their states
set_conforms : (o : Outlines) (c d : CallerState) (new : Outline) (x : VgetrandomState) → Conforms o c →
    d.states ≡ slice_set c.states c.current x → d.current ≡ c.current → IsBetweenCalls new x →
    Conforms (with_outline o new) d
set_conforms o c d new x st states current is = record {
  count = length_set o.each o.current new ∙ st.count;
  states = ap length states ∙ length_set c.states c.current x ∙ st.states;
  current = st.current ∙ sym current;
  each = λ k below. conform k below (o.current == k) refl;
}
  where
    new_state : (k : ℕ) → o.current ≡ k → k < 16 → state_at d k ≡ x
    new_state k e below =
        ap (λ xs. unwrap_or (slice_get xs k) wiped_state)
        (states ∙ ap (λ i. slice_set c.states i x) (sym st.current ∙ e))
        ∙ ap (λ o. unwrap_or o wiped_state) (set_here c.states k x (omega (arith, st.states)))

    old_state : (k : ℕ) → (o.current ≡ k → ⊥) → state_at d k ≡ state_at c k
    old_state k ne =
        ap (λ xs. unwrap_or (slice_get xs k) wiped_state) states
        ∙ ap (λ o. unwrap_or o wiped_state) (set_other c.states c.current k x (λ e. ne (st.current ∙ e)))

    conform : (k : ℕ) → k < 16 → (b : Bool) → (o.current == k) ≡ b →
        IsBetweenCalls (outline_at (with_outline o new) k) (state_at d k)
    conform k below true e =
        let same : o.current ≡ k = eqb-true o.current k e in
        conforms_as (ap (λ i. unwrap_or (slice_get (slice_set o.each i new) k) wiped_outline) same
        ∙ ap (λ o. unwrap_or o wiped_outline) (set_here o.each k new (omega (arith, st.count))))
        (new_state k same below) is
    conform k below false e =
        let ne : o.current ≡ k → ⊥ = λ p. (let yes : (o.current == k) ≡ true = eq-eqb o.current k p in absurd cc) in
        conforms_as (ap (λ o. unwrap_or o wiped_outline) (set_other o.each o.current k new ne)) (old_state k ne)
        (st.each k below)

-- the outline of the current state matches this state, even if the state's number is too large
current_conforms : (o : Outlines) (c : CallerState) → Conforms o c → IsBetweenCalls (current_outline o) (current_state c)
current_conforms o c st = go (nat_lt o.current 16) refl
  where
    go : (b : Bool) → nat_lt o.current 16 ≡ b → IsBetweenCalls (current_outline o) (current_state c)
    go true e =
        let below : o.current < 16 = grind (arith, nat_tests) in
        let P : ℕ → Type 0 = λ k. IsBetweenCalls (current_outline o) (state_at c k) in
        subst P st.current (st.each o.current below)
    go false e =
        let above : 16 ≤ o.current = grind (arith, nat_tests) in
        conforms_as {l = current_outline o} {l' = wiped_outline} {x = current_state c} {x' = wiped_state}
        (ap (λ o. unwrap_or o wiped_outline) (slice_get_past o.each o.current (omega (arith, st.count))))
        (ap (λ o. unwrap_or o wiped_state)
        (slice_get_past c.states c.current (omega (arith, st.states, st.current)))) wiped_conforms

-- ---- one call of a caller ----

alone_goes : (o : Outlines) (event : Event) (m : CallMeaning) → Conforms o m.before → AloneMeans event m →
    Conforms (outlines_after_event o event) m.after × (entries_of_event event ≡ m.entries)
alone_goes o Drop m st means = (
  set_conforms o m.before m.after wiped_outline wiped_state st (ap (λ (c : CallerState). c.states) means.after)
      (ap (λ (c : CallerState). c.current) means.after) wiped_conforms,
  sym means.entries,
)
alone_goes o (State number) m st means = (
  same_conforms o _ m.before m.after st refl (ap (λ (c : CallerState). c.states) means.after)
      (sym (ap (λ (c : CallerState). c.current) means.after)),
  sym means.entries,
)
alone_goes o event m st means = (
  same_conforms o _ m.before m.after st refl (ap (λ (c : CallerState). c.states) means.after)
      (st.current ∙ sym (ap (λ (c : CallerState). c.current) means.after)),
  sym means.entries,
)

abbrev pub HasEffects : Lists → SeenLine → LineMeaning → Type 0
HasEffects lists line m = effects_of lists line.steps ≡ m.effects

pub call_goes : (lists : Lists) (o : Outlines) (call : Call) (m : CallMeaning) → Conforms o m.before → Means call m →
    EachOfCall (HasEffects lists) call m → Goes o call m
call_goes lists o (alone event line) m st means effects =
    let goes = alone_goes o event m st means in record { conforms = goes.0; entries = goes.1 }
call_goes lists o (vread_call n flags line acts) m st means effects =
    let v = vread_leaves lists n flags acts line.steps m (nothing_left (current_outline o)) means effects.0
    (current_conforms o m.before st) in
    record {
      conforms = set_conforms o m.before m.after _ v.state st (ap (λ (c : CallerState). c.states) v.after)
          (ap (λ (c : CallerState). c.current) v.after) v.conforms;
      entries = v.entries;
    }
call_goes lists o (unbound bound) m st means effects = record {
  conforms = same_conforms o o m.before m.after st refl (ap (λ (c : CallerState). c.states) means.after)
      (st.current ∙ sym (ap (λ (c : CallerState). c.current) means.after));
  entries = sym means.entries;
}
call_goes lists o (ending line) m st means effects = record {
  conforms = same_conforms o o m.before m.after st refl (ap (λ (c : CallerState). c.states) means.after)
      (st.current ∙ sym (ap (λ (c : CallerState). c.current) means.after));
  entries = sym means.entries;
}

-- ---- the calls of a caller, one after another ----

pub conforms_at : (o : Outlines) (c d : CallerState) → c ≡ d → Conforms o c → Conforms o d
conforms_at o c d e st = let P : CallerState → Type 0 = λ x. Conforms o x in subst P e st

calls_go : (lists : Lists) (o : Outlines) (c : CallerState) (calls : List Call) (ms : List CallMeaning) → Conforms o c →
    CallsMean c calls ms → EachLine (HasEffects lists) calls ms → (k : ℕ) → list_left k o calls ≡ entries_of_state k ms
calls_go lists o c [] [] st means effects k = refl
calls_go lists o c [] (m ∷ ms) st means effects k = absurd means
calls_go lists o c (call ∷ calls) [] st means effects k = absurd means
calls_go lists o c (call ∷ calls) (m ∷ ms) st means effects k =
    let here : Conforms o m.before = conforms_at o c m.before (sym means.0) st in
    let one : Goes o call m = call_goes lists o call m here means.1 effects.0 in
    let more = calls_go lists (outlines_after o call) m.after calls ms one.conforms means.2 effects.1 k in
    let first : left_in k o call ≡ (if m.before.current == k then m.entries else []) =
    ap (λ i. if i == k then entries_left o call else []) here.current
    ∙ ap (λ es. if m.before.current == k then es else []) one.entries in
    ap (λ es. es ++ list_left k (outlines_after o call) calls) first
    ∙ ap (λ es. (if m.before.current == k then m.entries else []) ++ es) more

-- ---- the lists of a caller's states after its calls ----

pub at_start : (setting : Setting) → Conforms first_outlines (caller_start setting)
at_start setting = record {
  count = refl;
  states = refl;
  current = refl;
  each = λ k below. conforms_as (replicated 16 k wiped_outline) (replicated 16 k wiped_state) wiped_conforms;
}
  where
    replicated : {A : Type 0} (n k : ℕ) (x : A) → unwrap_or (slice_get (replicate n x) k) x ≡ x
    replicated zero k x = refl
    replicated (suc n) zero x = refl
    replicated (suc n) (suc k) x = replicated n k x

pub map_same : {A B : Type 0} (f g : A → B) (xs : List A) → ((x : A) → f x ≡ g x) → map f xs ≡ map g xs
map_same f g [] same = refl
map_same f g (x ∷ xs) same = ap (λ y. y ∷ map f xs) (same x) ∙ ap (λ ys. g x ∷ ys) (map_same f g xs same)

pub calls_leave : CallsLeave
calls_leave lists setting calls ms means =
    map_same (λ k. list_left k first_outlines calls) (λ k. entries_of_state k ms) (range_with_len 0 16)
    (calls_go lists first_outlines (caller_start setting) calls ms (at_start setting) means.follows means.effects)

pub all_leave : (lists : Lists) (settings : ℕ → Setting) (c : ℕ) (callers : List (List Call))
    (ms : List (List CallMeaning)) →
    EachCaller (λ c calls ms. CallerMeans lists (settings c) calls ms) c callers ms →
    map lists_left callers ≡ map state_lists ms
all_leave lists settings c [] [] means = refl
all_leave lists settings c [] (m ∷ ms) means = absurd means
all_leave lists settings c (calls ∷ callers) [] means = absurd means
all_leave lists settings c (calls ∷ callers) (m ∷ ms) means =
    let one = calls_leave lists (settings c) calls m means.0 in
    let more = all_leave lists settings (suc c) callers ms means.1 in cc
