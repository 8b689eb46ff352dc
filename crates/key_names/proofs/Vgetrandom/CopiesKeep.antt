-- After a copy out of a vgetrandom state, the list of the state is in order, and the state's served bytes are 0.
use Rattle.std.proofs.Common.{◌≡◌, ℕ, zero, suc, ◌+◌, ◌-◌, ◌*◌, drop, ◌≤◌, Bool, true, false, List, [], ◌++◌, ◌⊎◌, inl}
use Rattle.std.proofs.Common.{inr, refl, sym, subst, arith}
use Rattle.std.specs.Prelude.{nat_le, if◌then◌else◌}
use Rattle.std.specs.List.{fold}
use Rattle.std.proofs.lemmas.List.Sums.{fold-append}
use Rattle.std.proofs.lemmas.Bool.{leb-true}
use Rattle.key_names.specs.declared.entries.VEntry.{VEntry}
use Rattle.key_names.specs.Lanes.LawfulList.{LawfulFrom}
use Rattle.key_names.specs.Lanes.StateList.{NamedState, anything, new_key, refill_from, Expected, MayStart, MayRefill}
use Rattle.key_names.specs.Lanes.StateList.{MayFollow, state_step}
use Rattle.key_names.specs.Kernel.VgetrandomState.{VgetrandomState}
use Rattle.key_names.specs.Kernel.BatchCopy.{bytes_left, whole_blocks, new_batch_bytes, has_left, state_of_same_batch}
use Rattle.key_names.specs.Kernel.BatchCopy.{state_of_new_batch, state_after_copy, serve_entry, refill_entries, copy_entries}
use Rattle.key_names.proofs.Uses.BatchBytes.{StartsZero, zeros_front, zeros_more}
use Rattle.key_names.specs.Kernel.Keystream.{keystream}
use Rattle.key_names.proofs.Lists.Growing.{lawful_append}

pub copy_keeps_generation : (s : VgetrandomState) (c n : ℕ) → (state_after_copy s c n).generation ≡ s.generation
copy_keeps_generation s c n = go (has_left s n)
  where
    go : (b : Bool) → (if b then state_of_same_batch s n else state_of_new_batch s (c + whole_blocks s n)
        (new_batch_bytes s n)).generation ≡ s.generation
    go true = refl
    go false = refl

-- the state `s` matches its list. Let `t` be the names after the list: they have the same position as `s`, any entry
-- may come next, and the served bytes of `s` are 0
pub record Settled (t : NamedState) (s : VgetrandomState) : Type 0 where
  pub same_pos : t.pos ≡ s.pos
  pub within : s.pos ≤ 96
  pub expects : t.expected ≡ anything
  pub zeros : StartsZero s.pos s.batch

-- the state is settled, or its key was just read and the batch of that key is not made yet
pub record Ready (t : NamedState) (s : VgetrandomState) : Type 0 where
  pub within : s.pos ≤ 96
  pub expects : ((t.expected ≡ anything) × (t.pos ≡ s.pos) × StartsZero s.pos s.batch)
      ⊎ (MayStart t.expected × (s.pos ≡ 96))

pub ready : (t : NamedState) (s : VgetrandomState) → Settled t s → Ready t s
ready t s h = record { within = h.within; expects = inl (h.expects, h.same_pos, h.zeros) }

pub may_start : (x : Expected) → x ≡ anything → MayStart x
may_start x is = subst MayStart (sym is) tt

pub ready_start : (t : NamedState) (s : VgetrandomState) → Ready t s → MayStart t.expected
ready_start t s h = elim h.expects [ inl old ↦ may_start t.expected old.0 | inr new ↦ new.0 ]

may_refill : (x : Expected) (from : ℕ) → MayStart x → MayRefill x from
may_refill anything from may = tt
may_refill new_key from may = tt
may_refill (refill_from n) from may = absurd may

module _ (caller state : ℕ) where
  abbrev step : NamedState → VEntry → NamedState
  step = state_step caller state

  -- the entries `es` may come one after another from the state `t` on, and `After` holds for the state after them
  pub record Keeps (After : NamedState → Type 0) (t : NamedState) (es : List VEntry) : Type 0 where
    pub lawful : LawfulFrom MayFollow (state_step caller state) t es
    pub after : After (fold (state_step caller state) t es)

  pub keeps_append : (After : NamedState → Type 0) (t : NamedState) (xs ys : List VEntry) →
      Keeps (λ u. Keeps After u ys) t xs → Keeps After t (xs ++ ys)
  keeps_append After t xs ys h = record {
    lawful = lawful_append MayFollow step t xs ys h.lawful (h.after).lawful;
    after = (let P : NamedState → Type 0 = After in subst P (sym (fold-append step t xs ys)) (h.after).after);
  }

  pub keeps_weaker : (After Also : NamedState → Type 0) → ((u : NamedState) → After u → Also u) →
      (t : NamedState) (es : List VEntry) →
      Keeps After t es → Keeps Also t es
  keeps_weaker After Also weaker t es h = record { lawful = h.lawful; after = weaker _ h.after }

  -- let any entry be allowed next, and let the batch have n more bytes. Then the entry for serving them keeps the list
  -- in order
  pub serve_keeps : (t : NamedState) (s : VgetrandomState) (n : ℕ) → t.expected ≡ anything → t.pos ≡ s.pos →
      s.pos + n ≤ 96 →
      Keeps (λ u. (u.pos ≡ s.pos + n) × (u.expected ≡ anything)) t (serve_entry s.pos n)
  serve_keeps t s zero any at fits =
      record { lawful = tt; after = ((let p : t.pos ≡ s.pos + 0 = omega arith in p), any) }
  serve_keeps t s (suc n) any at fits = record { lawful = ((any, sym at, fits), tt); after = (refl, any) }

  zero_first : (n : ℕ) → 0 + n ≡ n
  zero_first n = omega arith

  from_zero : (r : ℕ) → suc r ≤ 96 → 0 + suc r ≤ 96
  from_zero r le = omega arith

  -- the entries for blocks and a new batch keep the list in order
  refill_keeps : (t : NamedState) (c m r : ℕ) → MayStart t.expected → r ≤ 96 →
      Keeps (λ u. (u.pos ≡ r) × (u.expected ≡ anything)) t (refill_entries c m r)
  refill_keeps t c zero zero x fits = record { lawful = (may_refill t.expected (c + 0) x, tt); after = (refl, refl) }
  refill_keeps t c zero (suc r) x fits =
      record {
        lawful = (may_refill t.expected (c + 0) x, ((refl, refl, from_zero r fits), tt));
        after =
            (zero_first (suc r), refl);
      }
  refill_keeps t c (suc m) zero x fits = record { lawful = (x, (refl, tt)); after = (refl, refl) }
  refill_keeps t c (suc m) (suc r) x fits =
      record {
        lawful = (x, (refl, ((refl, refl, from_zero r fits), tt)));
        after =
            (zero_first (suc r), refl);
      }

  -- a copy of at least one byte keeps the list in order
  pub copy_keeps : (t : NamedState) (s : VgetrandomState) (c n : ℕ) → 1 ≤ n → Ready t s →
      Keeps (λ u. Settled u (state_after_copy s c n)) t (copy_entries s c n)
  copy_keeps t s c n some r = go (has_left s n) refl
    where
      fits : nat_le n (bytes_left s) ≡ true → s.pos + n ≤ 96
      fits is = let le : n ≤ 96 - s.pos = leb-true n (bytes_left s) is in let w = r.within in omega arith

      -- if the batch has n bytes left, the key is not new, since a new key leaves no bytes in the batch
      old : nat_le n (bytes_left s) ≡ true → (t.expected ≡ anything) × (t.pos ≡ s.pos) × StartsZero s.pos s.batch
      old is = elim r.expects [
        | inl batch ↦ batch
        | inr new ↦ absurd (let le : n ≤ 96 - s.pos = leb-true n (bytes_left s) is in let p = new.1 in
            omega arith)
      ]

      small : new_batch_bytes s n ≤ 96
      small = omega arith

      -- the entry for the rest of the batch keeps the list in order
      rest_keeps : Keeps (λ u. MayStart u.expected) t (serve_entry s.pos (bytes_left s))
      rest_keeps = elim r.expects [
        | inl batch ↦ keeps_weaker (λ u. (u.pos ≡ s.pos + bytes_left s) × (u.expected ≡ anything))
            (λ u. MayStart u.expected)
            (λ u h. may_start u.expected h.1) t (serve_entry s.pos (bytes_left s))
            (serve_keeps t s (bytes_left s) batch.0 batch.1 (let w = r.within in omega arith))
        | inr new ↦ (let none : 0 ≡ bytes_left s = (let p = new.1 in omega arith) in
            let P : ℕ → Type 0 = λ x. Keeps (λ u. MayStart u.expected) t (serve_entry s.pos x) in
            let empty : Keeps (λ u. MayStart u.expected) t [] = record { lawful = tt; after = new.0 } in
            subst P none empty)
      ]

      go : (b : Bool) → has_left s n ≡ b →
          Keeps (λ u. Settled u (if b then state_of_same_batch s n else state_of_new_batch s (c + whole_blocks s n)
          (new_batch_bytes s n))) t
          (if b then serve_entry s.pos n else serve_entry s.pos (bytes_left s) ++ refill_entries c (whole_blocks s n)
          (new_batch_bytes s n))
      go true is = keeps_weaker (λ u. (u.pos ≡ s.pos + n) × (u.expected ≡ anything))
          (λ u. Settled u (state_of_same_batch s n))
          (λ u h. record {
            same_pos = h.0;
            within = fits is;
            expects = h.1;
            zeros =
                zeros_more s.pos n s.batch (old is).2;
          }) t (serve_entry s.pos n)
          (serve_keeps t s n (old is).0 (old is).1 (fits is))
      go false is = keeps_append (λ u. Settled u (state_of_new_batch s (c + whole_blocks s n) (new_batch_bytes s n))) t
          (serve_entry s.pos (bytes_left s)) (refill_entries c (whole_blocks s n) (new_batch_bytes s n))
          (keeps_weaker (λ u. MayStart u.expected)
          (λ u. Keeps (λ v. Settled v (state_of_new_batch s (c + whole_blocks s n) (new_batch_bytes s n))) u
          (refill_entries c (whole_blocks s n) (new_batch_bytes s n)))
          (λ u x. keeps_weaker (λ v. (v.pos ≡ new_batch_bytes s n) × (v.expected ≡ anything))
          (λ v. Settled v (state_of_new_batch s (c + whole_blocks s n) (new_batch_bytes s n)))
          (λ v h. record {
            same_pos = h.0;
            within = small;
            expects = h.1;
            zeros = zeros_front (new_batch_bytes s n)
                (drop (0 + new_batch_bytes s n) (keystream s.key (64 * (c + whole_blocks s n)) 96));
          }) u
          (refill_entries c (whole_blocks s n) (new_batch_bytes s n))
          (refill_keeps u c (whole_blocks s n) (new_batch_bytes s n) x small))
          t (serve_entry s.pos (bytes_left s)) rest_keeps)
