-- A caller's states in two books are alike: the settings are the same, and each vgetrandom state has the same
-- generation, position and in-use mark.
use Rattle.std.proofs.Common.{◌≡◌, ℕ, zero, suc, List, [], ◌∷◌, refl, sym, subst, ap}
use Rattle.std.specs.Prelude.{⊤, slice_get, slice_set, unwrap_or}
use Rattle.key_names.specs.declared.events.Event.{Event}
use Rattle.key_names.specs.declared.events.Event.TheVariants.{Drop, State}
use Rattle.key_names.specs.Callers.Calls.{setting_after}
use Rattle.key_names.specs.Kernel.VgetrandomState.{VgetrandomState, wiped_state}
use Rattle.key_names.specs.Callers.Meaning.{CallerState, caller_after, current_state, with_state}
use Rattle.key_names.proofs.Unique.UniqueStates.{SameState, same_itself}

module _ (H : Type 0) where
  abbrev pub SameStates : List VgetrandomState → List VgetrandomState → Type 0
  SameStates [] [] = ⊤
  SameStates (s ∷ ss) (s' ∷ ss') = SameState H s s' × SameStates ss ss'
  SameStates _ _ = ⊥

  pub record SameCaller (s s' : CallerState) : Type 0 where
    pub setting : s.setting ≡ s'.setting
    pub current : s.current ≡ s'.current
    pub states : SameStates s.states s'.states
    pub equal : H → s ≡ s'

  states_themselves : (ss : List VgetrandomState) → SameStates ss ss
  states_themselves [] = tt
  states_themselves (s ∷ ss) = (same_itself H s, states_themselves ss)

  pub caller_itself : (s : CallerState) → SameCaller s s
  caller_itself s = record { setting = refl; current = refl; states = states_themselves s.states; equal = λ h. refl }

  state_at : (ss ss' : List VgetrandomState) (k : ℕ) → SameStates ss ss' →
      SameState H (unwrap_or (slice_get ss k) wiped_state) (unwrap_or (slice_get ss' k) wiped_state)
  state_at [] [] k same = same_itself H wiped_state
  state_at [] (s' ∷ ss') k same = absurd same
  state_at (s ∷ ss) [] k same = absurd same
  state_at (s ∷ ss) (s' ∷ ss') zero same = same.0
  state_at (s ∷ ss) (s' ∷ ss') (suc k) same = state_at ss ss' k same.1

  states_with : (ss ss' : List VgetrandomState) (k : ℕ) (x x' : VgetrandomState) → SameStates ss ss' →
      SameState H x x' →
      SameStates (slice_set ss k x) (slice_set ss' k x')
  states_with [] [] k x x' same put = tt
  states_with [] (s' ∷ ss') k x x' same put = absurd same
  states_with (s ∷ ss) [] k x x' same put = absurd same
  states_with (s ∷ ss) (s' ∷ ss') zero x x' same put = (put, same.1)
  states_with (s ∷ ss) (s' ∷ ss') (suc k) x x' same put = (same.0, states_with ss ss' k x x' same.1 put)

  pub same_current : (s s' : CallerState) → SameCaller s s' → SameState H (current_state s) (current_state s')
  same_current s s' same =
      let P : ℕ → Type 0 = λ k. SameState H (current_state s) (unwrap_or (slice_get s'.states k) wiped_state) in
      subst P same.current (state_at s.states s'.states s.current same.states)

  pub same_with_state : (s s' : CallerState) → SameCaller s s' → (x x' : VgetrandomState) → SameState H x x' →
      SameCaller (with_state s x) (with_state s' x')
  same_with_state s s' same x x' put = record {
    setting = same.setting;
    current = same.current;
    states = (let P : ℕ → Type 0 = λ k. SameStates (slice_set s.states s.current x) (slice_set s'.states k x') in
        subst P same.current (states_with s.states s'.states s.current x x' same.states put));
    equal = λ h i. with_state (same.equal h i) (put.equal h i);
  }

  same_setting : (event : Event) (s s' : CallerState) → SameCaller s s' →
      SameCaller (record s { setting = setting_after s.setting event })
      (record s' { setting = setting_after s'.setting event })
  same_setting event s s' same = record {
    setting = ap (λ x. setting_after x event) same.setting;
    current = same.current;
    states = same.states;
    equal = λ h. ap (λ (x : CallerState). record x { setting = setting_after x.setting event }) (same.equal h);
  }

  pub same_after : (event : Event) (s s' : CallerState) → SameCaller s s' →
      SameCaller (caller_after s event) (caller_after s' event)
  same_after Drop s s' same = same_with_state s s' same wiped_state wiped_state (same_itself H wiped_state)
  same_after (State number) s s' same = record {
    setting = same.setting;
    current = refl;
    states = same.states;
    equal = λ h. ap (λ (x : CallerState). record x { current = number }) (same.equal h);
  }
  same_after event s s' same = same_setting event s s' same

  pub callers_at : (s s' r r' : CallerState) → s ≡ r → s' ≡ r' → SameCaller r r' → SameCaller s s'
  callers_at s s' r r' p q same =
      let P : CallerState → Type 0 = λ x. SameCaller x s' in
      let Q : CallerState → Type 0 = λ y. SameCaller r y in
      subst P (sym p) (subst Q (sym q) same)
