-- Two vgetrandom states are alike (`SameState`) if they differ at most in the bytes of key and batch, and do not differ
-- at all when H holds. Two states that are alike stay alike if both get the same use.
use Rattle.std.proofs.Common.{◌≡◌, ℕ, ◌+◌, Bool, true, false, List, ◌++◌, refl, sym, subst, ap, ◌∙◌}
use Rattle.std.specs.Prelude.{if◌then◌else◌}
use Rattle.key_names.specs.declared.entries.VEntry.{VEntry}
use Rattle.key_names.specs.Kernel.VgetrandomState.{VgetrandomState, wiped_state, state_left}
use Rattle.key_names.specs.Kernel.BatchCopy.{has_left, whole_blocks, new_batch_bytes, state_of_same_batch, state_of_new_batch}
use Rattle.key_names.specs.Kernel.BatchCopy.{state_after_copy, block_after_copy, copy_entries}
use Rattle.key_names.specs.Kernel.Vgetrandom.{Attempt, prefix_attempt, Outcome, prefix_outcome}

module _ (H : Type 0) where
  pub record SameState (s s' : VgetrandomState) : Type 0 where
    pub generation : s.generation ≡ s'.generation
    pub pos : s.pos ≡ s'.pos
    pub in_use : s.in_use ≡ s'.in_use
    pub equal : H → s ≡ s'

  pub same_itself : (s : VgetrandomState) → SameState s s
  same_itself s = record { generation = refl; pos = refl; in_use = refl; equal = λ h. refl }

  pub same_left : (wiped : Bool) (s s' : VgetrandomState) → SameState s s' →
      SameState (state_left wiped s) (state_left wiped s')
  same_left true s s' same = same_itself wiped_state
  same_left false s s' same = same

  pub same_generation : (g : ℕ) (s s' : VgetrandomState) → SameState s s' →
      SameState (record s { generation = g }) (record s' { generation = g })
  same_generation g s s' same = record {
    generation = refl;
    pos = same.pos;
    in_use = same.in_use;
    equal = λ h. ap (λ (x : VgetrandomState). record x { generation = g }) (same.equal h);
  }

  pub same_marked : (in_use : Bool) (s s' : VgetrandomState) → SameState s s' →
      SameState (record s { in_use = in_use }) (record s' { in_use = in_use })
  same_marked in_use s s' same = record {
    generation = same.generation;
    pos = same.pos;
    in_use = refl;
    equal = λ h. ap (λ (x : VgetrandomState). record x { in_use = in_use }) (same.equal h);
  }

  pub same_keyed : (key key' : List ℕ) → (H → key ≡ key') → (s s' : VgetrandomState) → SameState s s' →
      SameState (record s { key = key; pos = 96 }) (record s' { key = key'; pos = 96 })
  same_keyed key key' keys s s' same = record {
    generation = same.generation;
    pos = refl;
    in_use = same.in_use;
    equal = λ h. ap (λ (x : VgetrandomState). record x { key = key; pos = 96 }) (same.equal h)
        ∙ ap (λ k. record s' { key = k; pos = 96 }) (keys h);
  }

  -- if the tests of two choices are equal, and the states on each side are alike, then the chosen states are alike
  same_if : (b b' : Bool) → b ≡ b' → (x y x' y' : VgetrandomState) → SameState x x' → SameState y y' →
      SameState (if b then x else y) (if b' then x' else y')
  same_if true true p x y x' y' here there = here
  same_if false false p x y x' y' here there = there
  same_if true false p x y x' y' here there = cc
  same_if false true p x y x' y' here there = cc

  -- the entries and the next block of a copy are the same for states that are alike
  pub same_entries : (c n : ℕ) (s s' : VgetrandomState) → SameState s s' → copy_entries s c n ≡ copy_entries s' c n
  same_entries c n s s' same = ap (λ p. copy_entries (record wiped_state { pos = p }) c n) same.pos

  pub same_block : (c n : ℕ) (s s' : VgetrandomState) → SameState s s' →
      block_after_copy s c n ≡ block_after_copy s' c n
  same_block c n s s' same = ap (λ p. block_after_copy (record wiped_state { pos = p }) c n) same.pos

  pub same_copy : (c n : ℕ) (s s' : VgetrandomState) → SameState s s' →
      SameState (state_after_copy s c n) (state_after_copy s' c n)
  same_copy c n s s' same =
      same_if (has_left s n) (has_left s' n) (ap (λ p. has_left (record wiped_state { pos = p }) n) same.pos) _ _ _ _
      (let m : SameState (state_of_same_batch s n) (state_of_same_batch s' n) = record {
        generation = same.generation;
        pos = ap (λ p. p + n) same.pos;
        in_use = same.in_use;
        equal = λ h. ap (λ x. state_of_same_batch x n) (same.equal h);
      } in m)
      (let m : SameState (state_of_new_batch s (c + whole_blocks s n) (new_batch_bytes s n))
      (state_of_new_batch s' (c + whole_blocks s' n) (new_batch_bytes s' n)) = record {
        generation = same.generation;
        pos = ap (λ p. new_batch_bytes (record wiped_state { pos = p }) n) same.pos;
        in_use = same.in_use;
        equal = λ h. ap (λ x. state_of_new_batch x (c + whole_blocks x n) (new_batch_bytes x n)) (same.equal h);
      } in m)

  -- two attempts with the same end, next block and entries, and with states that are alike. If H holds, the attempts
  -- are equal
  pub record SameAttempt (a a' : Attempt) : Type 0 where
    pub end : a.end ≡ a'.end
    pub next_block : a.next_block ≡ a'.next_block
    pub entries : a.entries ≡ a'.entries
    pub state : SameState a.state a'.state
    pub equal : H → a ≡ a'

  pub attempts_at : (a a' b b' : Attempt) → a ≡ b → a' ≡ b' → SameAttempt b b' → SameAttempt a a'
  attempts_at a a' b b' p q same =
      let P : Attempt → Type 0 = λ x. SameAttempt x a' in
      let Q : Attempt → Type 0 = λ y. SameAttempt b y in
      subst P (sym p) (subst Q (sym q) same)

  pub same_after : (es es' : List VEntry) → es ≡ es' → (a a' : Attempt) → SameAttempt a a' →
      SameAttempt (prefix_attempt es a) (prefix_attempt es' a')
  same_after es es' p a a' same = record {
    end = same.end;
    next_block = same.next_block;
    entries = ap (λ x. x ++ a.entries) p ∙ ap (λ x. es' ++ x) same.entries;
    state = same.state;
    equal = λ h. ap (λ x. prefix_attempt x a) p ∙ ap (λ x. prefix_attempt es' x) (same.equal h);
  }

  -- the outcomes of two calls have the same entries, and states that are alike. If H holds, the outcomes are equal
  pub record SameOutcome (o o' : Outcome) : Type 0 where
    pub entries : o.entries ≡ o'.entries
    pub state : SameState o.state o'.state
    pub equal : H → o ≡ o'

  pub outcomes_at : (a a' b b' : Outcome) → a ≡ b → a' ≡ b' → SameOutcome b b' → SameOutcome a a'
  outcomes_at a a' b b' p q same =
      let P : Outcome → Type 0 = λ x. SameOutcome x a' in
      let Q : Outcome → Type 0 = λ y. SameOutcome b y in
      subst P (sym p) (subst Q (sym q) same)

  pub outcome_same_after : (es es' : List VEntry) → es ≡ es' → (o o' : Outcome) → SameOutcome o o' →
      SameOutcome (prefix_outcome es o) (prefix_outcome es' o')
  outcome_same_after es es' p o o' same = record {
    entries = ap (λ x. x ++ o.entries) p ∙ ap (λ x. es' ++ x) same.entries;
    state = same.state;
    equal = λ h. ap (λ x. prefix_outcome x o) p ∙ ap (λ x. prefix_outcome es' x) (same.equal h);
  }
