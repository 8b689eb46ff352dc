-- After each entry of a vgetrandom state's list, the state's key has the value of its name.
use Rattle.std.proofs.Common.{◌≡◌, ℕ, suc, ◌+◌, List, [], ◌∷◌, ◌++◌, refl, sym, ap, ◌∙◌, arith, Some, None, Option, take}
use Rattle.std.specs.List.{fold}
use Rattle.std.proofs.lemmas.List.Sums.{fold-append}
use Rattle.key_names.specs.declared.names.LaneId.TheVariants.{Cpu as CpuLane}
use Rattle.key_names.specs.declared.names.KeyName.{KeyName}
use Rattle.key_names.specs.declared.names.KeyName.TheVariants.{Call, Vdso}
use Rattle.key_names.specs.declared.entries.VEntry.{VEntry}
use Rattle.key_names.specs.declared.entries.VEntry.TheVariants.{Rekey, Blocks, Refill, Serve, Wipe}
use Rattle.key_names.specs.Lanes.StateList.{NamedState, state_step, state_start, state_after, refill_key}
use Rattle.key_names.specs.Lanes.Book.{Lists, state_list}
use Rattle.key_names.specs.Keys.KeyInUse.{zero_key, value_of, cpu_call_value, refill_value, refill_value_from, state_value_step, state_value_after}
use Rattle.key_names.proofs.Values.Named.{every_front}

-- how many entries of a vgetrandom state's list are refills
refills_in : List VEntry → ℕ
refills_in [] = 0
refills_in (Rekey cpu place ∷ es) = refills_in es
refills_in (Blocks from count ∷ es) = refills_in es
refills_in (Refill from ∷ es) = suc (refills_in es)
refills_in (Serve pos len ∷ es) = refills_in es
refills_in (Wipe ∷ es) = refills_in es

module _ (lists : Lists) (caller state : ℕ) where
  refills_after : (s : NamedState) (es : List VEntry) →
      (fold (state_step caller state) s es).refills ≡ s.refills + refills_in es
  unfolding refills_in
  refills_after s [] = omega arith
  refills_after s (Rekey cpu place ∷ es) = refills_after (state_step caller state s (Rekey cpu place)) es
  refills_after s (Blocks from count ∷ es) = refills_after (state_step caller state s (Blocks from count)) es
  refills_after s (Refill from ∷ es) =
      let p : (fold (state_step caller state) (state_step caller state s (Refill from)) es).refills
      ≡ suc s.refills + refills_in es =
      refills_after (state_step caller state s (Refill from)) es in omega arith
  refills_after s (Serve pos len ∷ es) = refills_after (state_step caller state s (Serve pos len)) es
  refills_after s (Wipe ∷ es) = refills_after (state_step caller state s Wipe) es

  -- if a refill comes after `front`, the key that the refill keeps gets its value from the key after `front`
  refill_value_at : (v : List ℕ) (front : List VEntry) (from : ℕ) (rest : List VEntry) →
      refill_value_from lists v (refills_in front) ((front ++ Refill from ∷ []) ++ rest) ≡ refill_value
      (fold (state_value_step lists) v front) from
  unfolding refills_in
  refill_value_at v [] from rest = refl
  refill_value_at v (Rekey cpu place ∷ front) from rest =
      refill_value_at (cpu_call_value lists cpu place) front from rest
  refill_value_at v (Blocks b count ∷ front) from rest = refill_value_at v front from rest
  refill_value_at v (Refill b ∷ front) from rest = refill_value_at (refill_value v b) front from rest
  refill_value_at v (Serve pos len ∷ front) from rest = refill_value_at v front from rest
  refill_value_at v (Wipe ∷ front) from rest = refill_value_at zero_key front from rest

  -- the state's key after `front`, a prefix of the list, has the value of its name
  abbrev pub StateNamed : List VEntry → Type 0
  StateNamed front = (k : KeyName) → (state_after caller state front).key ≡ Some k →
      value_of lists k ≡ state_value_after lists front

  refill_named : (v : List ℕ) (n : ℕ) (key : Option KeyName) (k : KeyName) → refill_key caller state n key ≡ Some k →
      value_of lists (Vdso caller state n) ≡ v → value_of lists k ≡ v
  refill_named v n None k h is = cc
  refill_named v n (Some key) k h is = let p : Vdso caller state n ≡ k = cc in sym (ap (value_of lists) p) ∙ is

  step_named : (front : List VEntry) (e : VEntry) (rest : List VEntry) →
      state_list lists caller state ≡ (front ++ e ∷ []) ++ rest →
      StateNamed front → (k : KeyName) → (state_step caller state (state_after caller state front) e).key ≡ Some k →
      value_of lists k ≡ state_value_step lists (state_value_after lists front) e
  step_named front (Rekey cpu place) rest is named k h = let p : Call (CpuLane cpu) place ≡ k = cc in
      sym (ap (value_of lists) p)
  step_named front (Blocks from count) rest is named k h = named k h
  step_named front (Serve pos len) rest is named k h = named k h
  step_named front Wipe rest is named k h = cc
  step_named front (Refill from) rest is named k h =
      let n : (state_after caller state front).refills ≡ refills_in front =
      (let p : (state_after caller state front).refills ≡ 0 + refills_in front = refills_after state_start front in
      omega arith) in
      refill_named (refill_value (state_value_after lists front) from) (state_after caller state front).refills
      (state_after caller state front).key k h
      (ap (λ i. refill_value_from lists zero_key i (state_list lists caller state)) n
      ∙ ap (refill_value_from lists zero_key (refills_in front)) is
      ∙ refill_value_at zero_key front from rest)

  named_more : (front : List VEntry) (e : VEntry) (rest : List VEntry) →
      state_list lists caller state ≡ (front ++ e ∷ []) ++ rest →
      StateNamed front → StateNamed (front ++ e ∷ [])
  named_more front e rest is named k h =
      let at : state_after caller state (front ++ e ∷ []) ≡ state_step caller state (state_after caller state front) e =
      fold-append (state_step caller state) state_start front (e ∷ []) in
      let value : state_value_after lists (front ++ e ∷ []) ≡ state_value_step lists (state_value_after lists front) e =
      fold-append (state_value_step lists) zero_key front (e ∷ []) in
      step_named front e rest is named k (sym (ap (λ s. s.key) at) ∙ h) ∙ sym value

  pub state_named : (j : ℕ) → StateNamed (take j (state_list lists caller state))
  state_named j = every_front StateNamed (state_list lists caller state) [] (state_list lists caller state) refl
      (λ k h. cc) named_more j
