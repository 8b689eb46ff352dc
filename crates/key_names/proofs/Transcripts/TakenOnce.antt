-- In a lawful transcript, no two entries of vgetrandom states take the same read as a key.
use Rattle.std.proofs.Common.{◌≡◌, ℕ, zero, suc, ◌+◌, ◌≤◌, Bool, true, false, List, [], ◌∷◌, ◌++◌, ◌⊎◌, inl, inr, refl, sym, ap, ◌∙◌, arith, Some, Option}
use Rattle.std.specs.Prelude.{◌==◌, ◌&&◌, ◌||◌, if◌then◌else◌, map}
use Rattle.std.specs.List.{list_any, range_with_len}
use Rattle.key_names.specs.Keys.Uses.{rekeys_place}
use Rattle.key_names.proofs.Transcripts.TakenMarks.{hit}
use Rattle.std.specs.Option.{option_map_or}
use Rattle.std.proofs.lemmas.Bool.{eqb-true, eq-eqb}
use Rattle.key_names.specs.declared.entries.VEntry.{VEntry}
use Rattle.key_names.specs.declared.entries.VEntry.TheVariants.{Rekey, Blocks, Refill, Serve, Wipe}
use Rattle.key_names.specs.Lanes.StateList.{rekey_of, rekey_at}
use Rattle.key_names.specs.Lanes.Book.{list_at}
use Rattle.key_names.specs.Callers.Meaning.{CallMeaning}
use Rattle.key_names.specs.Transcripts.IsTranscript.{entries_of_state, state_lists}
use Rattle.key_names.proofs.Vgetrandom.KeyTakes.{is_here, takes, takes_append}
use Rattle.key_names.proofs.Transcripts.TranscriptBooks.{made_at, made_beyond, lt_or_le}
use Rattle.key_names.proofs.Transcripts.CallTakes as calls

pub equal_or_not : (a b : ℕ) → (a ≡ b) ⊎ (a ≡ b → ⊥)
equal_or_not a b = go (a == b) refl
  where
    go : (x : Bool) → (a == b) ≡ x → (a ≡ b) ⊎ (a ≡ b → ⊥)
    go true is = inl (eqb-true a b is)
    go false is = inr (λ e. let yes : (a == b) ≡ true = eq-eqb a b e in cc)

pub or_true : (a b : Bool) → (a || b) ≡ true → (a ≡ true) ⊎ (b ≡ true)
or_true true b is = inl refl
or_true false b is = inr is

module _ (c p : ℕ) where
  abbrev caller_takes : List CallMeaning → ℕ
  caller_takes = calls.caller_takes c p

  abbrev all_takes : List (List CallMeaning) → ℕ
  all_takes = calls.all_takes c p

  -- the entries of state `k` take the read as a key at most as often as all entries of the state's caller do. The same
  -- is true of the entries of two different states, counted together
  one_state : (k : ℕ) (ms : List CallMeaning) → takes c p (entries_of_state k ms) ≤ caller_takes ms
  one_state k [] = omega arith
  one_state k (m ∷ ms) =
      let rest : takes c p (entries_of_state k ms) ≤ caller_takes ms = one_state k ms in
      let sum : takes c p ((if m.before.current == k then m.entries else []) ++ entries_of_state k ms)
      ≡ takes c p (if m.before.current == k then m.entries else []) + takes c p (entries_of_state k ms) =
      takes_append c p (if m.before.current == k then m.entries else []) (entries_of_state k ms) in
      let here : takes c p (if m.before.current == k then m.entries else []) ≤ takes c p m.entries =
      at_most m.entries (m.before.current == k) in omega arith
    where
      at_most : (es : List VEntry) (b : Bool) → takes c p (if b then es else []) ≤ takes c p es
      at_most es true = omega arith
      at_most es false = omega arith

  not_both : (current j k : ℕ) (es : List VEntry) → (j ≡ k → ⊥) →
      takes c p (if current == j then es else []) + takes c p (if current == k then es else []) ≤ takes c p es
  not_both current j k es ne = go (current == j) (current == k) refl refl
    where
      go : (a b : Bool) → (current == j) ≡ a → (current == k) ≡ b →
          takes c p (if a then es else []) + takes c p (if b then es else []) ≤ takes c p es
      go true true x y = absurd (ne (sym (eqb-true current j x) ∙ eqb-true current k y))
      go true false x y = omega arith
      go false true x y = omega arith
      go false false x y = omega arith

  two_states : (j k : ℕ) (ms : List CallMeaning) → (j ≡ k → ⊥) →
      takes c p (entries_of_state j ms) + takes c p (entries_of_state k ms) ≤ caller_takes ms
  two_states j k [] ne = omega arith
  two_states j k (m ∷ ms) ne =
      let rest : takes c p (entries_of_state j ms) + takes c p (entries_of_state k ms) ≤ caller_takes ms =
      two_states j k ms ne in
      let a : takes c p ((if m.before.current == j then m.entries else []) ++ entries_of_state j ms)
      ≡ takes c p (if m.before.current == j then m.entries else []) + takes c p (entries_of_state j ms) =
      takes_append c p (if m.before.current == j then m.entries else []) (entries_of_state j ms) in
      let b : takes c p ((if m.before.current == k then m.entries else []) ++ entries_of_state k ms)
      ≡ takes c p (if m.before.current == k then m.entries else []) + takes c p (entries_of_state k ms) =
      takes_append c p (if m.before.current == k then m.entries else []) (entries_of_state k ms) in
      let here : takes c p (if m.before.current == j then m.entries else []) + takes c p
      (if m.before.current == k then m.entries else []) ≤ takes c p m.entries =
      not_both m.before.current j k m.entries ne in omega arith

  -- if some entry of `es` takes the read as a key, then `takes` is at least 1
  pub any_entry : (es : List VEntry) → list_any (rekeys_place c p) es ≡ true → 1 ≤ takes c p es
  any_entry [] is = cc
  any_entry (Rekey cpu place ∷ es) is = elim (or_true (cpu == c && place == p) _ is) [
    | inl here ↦ (let one : is_here c p cpu place ≡ 1 = ap hit here in omega arith)
    | inr later ↦ omega (arith, any_entry es later)
  ]
  any_entry (Blocks from count ∷ es) is = any_entry es is
  any_entry (Refill from ∷ es) is = any_entry es is
  any_entry (Serve pos len ∷ es) is = any_entry es is
  any_entry (Wipe ∷ es) is = any_entry es is

  abbrev pub any_of_states : List (List VEntry) → Bool
  any_of_states states = list_any (λ es. list_any (rekeys_place c p) es) states

  any_state : (ms : List CallMeaning) (from count : ℕ) →
      any_of_states (map (λ k. entries_of_state k ms) (range_with_len from count)) ≡ true → 1 ≤ caller_takes ms
  any_state ms from zero is = cc
  any_state ms from (suc count) is =
      elim (or_true (list_any (rekeys_place c p) (entries_of_state from ms)) _ is) [
        | inl here ↦ omega (arith, any_entry (entries_of_state from ms) here, one_state from ms)
        | inr later ↦ any_state ms (from + 1) count later
      ]

  pub any_caller : (mss : List (List CallMeaning)) → list_any any_of_states (map state_lists mss) ≡ true →
      1 ≤ all_takes mss
  any_caller [] is = cc
  any_caller (ms ∷ mss) is = elim (or_true (any_of_states (state_lists ms)) _ is) [
    | inl here ↦ omega (arith, any_state ms 0 16 here)
    | inr later ↦ omega (arith, any_caller mss later)
  ]

  -- the list of state k has the entries that calls append to that state, or is empty
  state_list_is : (k : ℕ) (ms : List CallMeaning) →
      (list_at (state_lists ms) k ≡ entries_of_state k ms) ⊎ (list_at (state_lists ms) k ≡ [])
  state_list_is k ms = elim (lt_or_le k 16) [
    | inl lt ↦ (let q : 0 + k ≡ k = omega arith in
        inl (made_at (λ i. entries_of_state i ms) 0 16 k lt ∙ ap (λ i. entries_of_state i ms) q))
    | inr le ↦ inr (made_beyond (λ i. entries_of_state i ms) 0 16 k le)
  ]

  abbrev state_takes : List CallMeaning → ℕ → ℕ
  state_takes ms k = takes c p (list_at (state_lists ms) k)

  state_within : (ms : List CallMeaning) (k : ℕ) → state_takes ms k ≤ takes c p (entries_of_state k ms)
  state_within ms k = elim (state_list_is k ms) [
    | inl e ↦ (let q : state_takes ms k ≡ takes c p (entries_of_state k ms) = ap (takes c p) e in omega arith)
    | inr e ↦ (let q : state_takes ms k ≡ 0 = ap (takes c p) e in omega arith)
  ]

  -- how often the list of state k of caller i takes the read as a key
  abbrev takes_at : List (List CallMeaning) → ℕ → ℕ → ℕ
  takes_at mss i k = takes c p (list_at (list_at (map state_lists mss) i) k)

  one_within : (mss : List (List CallMeaning)) (i k : ℕ) → takes_at mss i k ≤ all_takes mss
  one_within [] i k = omega arith
  one_within (ms ∷ mss) zero k =
      let a : state_takes ms k ≤ takes c p (entries_of_state k ms) = state_within ms k in
      let b : takes c p (entries_of_state k ms) ≤ caller_takes ms = one_state k ms in omega arith
  one_within (ms ∷ mss) (suc i) k = let rest : takes_at mss i k ≤ all_takes mss = one_within mss i k in omega arith

  other_states : (mss : List (List CallMeaning)) (i j k : ℕ) → (j ≡ k → ⊥) →
      takes_at mss i j + takes_at mss i k ≤ all_takes mss
  other_states [] i j k ne = omega arith
  other_states (ms ∷ mss) zero j k ne =
      let a : state_takes ms j ≤ takes c p (entries_of_state j ms) = state_within ms j in
      let b : state_takes ms k ≤ takes c p (entries_of_state k ms) = state_within ms k in
      let both : takes c p (entries_of_state j ms) + takes c p (entries_of_state k ms) ≤ caller_takes ms =
      two_states j k ms ne in omega arith
  other_states (ms ∷ mss) (suc i) j k ne = let rest : takes_at mss i j + takes_at mss i k ≤ all_takes mss =
      other_states mss i j k ne in omega arith

  first_within : (ms : List CallMeaning) (k : ℕ) → state_takes ms k ≤ caller_takes ms
  first_within ms k =
      let a : state_takes ms k ≤ takes c p (entries_of_state k ms) = state_within ms k in
      let b : takes c p (entries_of_state k ms) ≤ caller_takes ms = one_state k ms in omega arith

  other_callers : (mss : List (List CallMeaning)) (h i j k : ℕ) → (h ≡ i → ⊥) →
      takes_at mss h j + takes_at mss i k ≤ all_takes mss
  other_callers [] h i j k ne = omega arith
  other_callers (ms ∷ mss) zero zero j k ne = absurd (ne refl)
  other_callers (ms ∷ mss) zero (suc i) j k ne =
      let a : state_takes ms j ≤ caller_takes ms = first_within ms j in let b : takes_at mss i k ≤ all_takes mss =
      one_within mss i k in omega arith
  other_callers (ms ∷ mss) (suc h) zero j k ne =
      let a : state_takes ms k ≤ caller_takes ms = first_within ms k in let b : takes_at mss h j ≤ all_takes mss =
      one_within mss h j in omega arith
  other_callers (ms ∷ mss) (suc h) (suc i) j k ne =
      let rest : takes_at mss h j + takes_at mss i k ≤ all_takes mss =
      other_callers mss h i j k (λ e. ne (ap suc e)) in omega arith

  abbrev some_read : ℕ → ℕ → Option (ℕ × ℕ)
  some_read cpu place = Some (cpu, place)

  -- `is_here` is 1 for an entry that takes the read at place `p` of CPU `c`
  here_is : (cpu place : ℕ) → some_read cpu place ≡ some_read c p → is_here c p cpu place ≡ 1
  here_is cpu place is =
      let a : (cpu == c) ≡ true = eq-eqb cpu c (ap (λ o. option_map_or (λ (x : ℕ × ℕ). x.0) o 0) is) in
      let b : (place == p) ≡ true = eq-eqb place p (ap (λ o. option_map_or (λ (x : ℕ × ℕ). x.1) o 0) is) in
      rw (a, b) refl

  pub counts_one : (es : List VEntry) (n : ℕ) → rekey_at es n ≡ Some (c, p) → 1 ≤ takes c p es
  counts_one [] n is = cc
  counts_one (Rekey cpu place ∷ es) zero is = let one : is_here c p cpu place ≡ 1 = here_is cpu place is in omega arith
  counts_one (Rekey cpu place ∷ es) (suc n) is = let rest : 1 ≤ takes c p es = counts_one es n is in omega arith
  counts_one (Blocks from count ∷ es) zero is = cc
  counts_one (Blocks from count ∷ es) (suc n) is = counts_one es n is
  counts_one (Refill from ∷ es) zero is = cc
  counts_one (Refill from ∷ es) (suc n) is = counts_one es n is
  counts_one (Serve pos len ∷ es) zero is = cc
  counts_one (Serve pos len ∷ es) (suc n) is = counts_one es n is
  counts_one (Wipe ∷ es) zero is = cc
  counts_one (Wipe ∷ es) (suc n) is = counts_one es n is

  more_takes : (e : VEntry) (es : List VEntry) → takes c p es ≤ takes c p (e ∷ es)
  more_takes (Rekey cpu place) es = omega arith
  more_takes (Blocks from count) es = omega arith
  more_takes (Refill from) es = omega arith
  more_takes (Serve pos len) es = omega arith
  more_takes Wipe es = omega arith

  first_counts : (e : VEntry) (es : List VEntry) (n : ℕ) → rekey_of e ≡ Some (c, p) → rekey_at es n ≡ Some (c, p) →
      2 ≤ takes c p (e ∷ es)
  first_counts (Rekey cpu place) es n is at =
      let one : is_here c p cpu place ≡ 1 = here_is cpu place is in
      let rest : 1 ≤ takes c p es = counts_one es n at in omega arith
  first_counts (Blocks from count) es n is at = cc
  first_counts (Refill from) es n is at = cc
  first_counts (Serve pos len) es n is at = cc
  first_counts Wipe es n is at = cc

  pub counts_two : (es : List VEntry) (n m : ℕ) → (n ≡ m → ⊥) → rekey_at es n ≡ Some (c, p) →
      rekey_at es m ≡ Some (c, p) → 2 ≤ takes c p es
  counts_two [] n m ne is at = cc
  counts_two (e ∷ es) zero zero ne is at = absurd (ne refl)
  counts_two (e ∷ es) zero (suc m) ne is at = first_counts e es m is at
  counts_two (e ∷ es) (suc n) zero ne is at = first_counts e es n at is
  counts_two (e ∷ es) (suc n) (suc m) ne is at =
      let rest : 2 ≤ takes c p es = counts_two es n m (λ x. ne (ap suc x)) is at in
      let more : takes c p es ≤ takes c p (e ∷ es) = more_takes e es in omega arith

  -- if all callers together take the read as a key at most once, then only one entry takes it
  pub one_entry : (mss : List (List CallMeaning)) → all_takes mss ≤ 1 → (h i j k n m : ℕ) →
      rekey_at (list_at (list_at (map state_lists mss) h) j) n ≡ Some (c, p) →
      rekey_at (list_at (list_at (map state_lists mss) i) k) m ≡ Some (c, p) →
      (h ≡ i) × (j ≡ k) × (n ≡ m)
  one_entry mss le h i j k n m is at = (same_caller, same_state, same_place)
    where
      one : 1 ≤ takes_at mss h j
      one = counts_one (list_at (list_at (map state_lists mss) h) j) n is

      other : 1 ≤ takes_at mss i k
      other = counts_one (list_at (list_at (map state_lists mss) i) k) m at

      same_caller : h ≡ i
      same_caller = elim (equal_or_not h i) [
        | inl e ↦ e
        | inr ne ↦ absurd (let both : takes_at mss h j + takes_at mss i k ≤ all_takes mss =
            other_callers mss h i j k ne in
            let x : 1 ≤ takes_at mss h j = one in let y : 1 ≤ takes_at mss i k = other in omega arith)
      ]

      same_state : j ≡ k
      same_state = elim (equal_or_not j k) [
        | inl e ↦ e
        | inr ne ↦ absurd (let both : takes_at mss i j + takes_at mss i k ≤ all_takes mss = other_states mss i j k ne in
            let here : takes_at mss h j ≡ takes_at mss i j = ap (λ x. takes_at mss x j) same_caller in
            let x : 1 ≤ takes_at mss h j = one in let y : 1 ≤ takes_at mss i k = other in omega arith)
      ]

      same_place : n ≡ m
      same_place = elim (equal_or_not n m) [
        | inl e ↦ e
        | inr ne ↦ absurd (let there : rekey_at (list_at (list_at (map state_lists mss) h) j) m ≡ Some (c, p) =
            ap (λ x. rekey_at (list_at (list_at (map state_lists mss) x) j) m) same_caller
            ∙ ap (λ y. rekey_at (list_at (list_at (map state_lists mss) i) y) m) same_state ∙ at in
            let two : 2 ≤ takes_at mss h j = counts_two (list_at (list_at (map state_lists mss) h) j) n m ne is there in
            let all : takes_at mss h j ≤ all_takes mss = one_within mss h j in omega arith)
      ]
