-- Counting samples and bits in the kept visits of the pool gives the same numbers as counting them in the book's pool.
use Rattle.std.proofs.Common.{◌≡◌, ℕ, zero, suc, ◌+◌, ◌<◌, Bool, true, false, Option, Some, None, List, [], ◌∷◌, length, take, refl, ap, ◌∙◌, arith}
use Rattle.std.specs.Prelude.{filter, not, ◌&&◌, if◌then◌else◌, option_map, slice_get}
use Rattle.std.specs.Option.{is_some}
use Rattle.std.proofs.lemmas.List.{length-map}
use Rattle.std.proofs.lemmas.Option.{slice_get-map, slice_get_within}
use Rattle.key_names.specs.declared.entries.PoolEntry.{PoolEntry}
use Rattle.key_names.specs.declared.entries.PoolEntry.TheVariants.{Mix, Input, Bits, Extract}
use Rattle.key_names.specs.Lanes.Book.{Book, Visit, entries_of, lists_of}
use Rattle.key_names.specs.Lanes.PoolList.{PoolState, pool_after}
use Rattle.key_names.specs.Texts.ScriptGrammar.{Script}
use Rattle.judge_log.specs.declared.kept.KeptPool.{KeptPool}
use Rattle.judge_log.specs.Kept.{KeepsPoolLane, root_kept}
use Rattle.audit_keys.specs.declared.moments.Moment.{Moment}
use Rattle.key_audit.specs.KeptPool.{kept_bits, kept_samples, sample_count}
use Rattle.key_audit.specs.Moments.{visit_moment, visit_moments}
use Rattle.key_audit.specs.Sources.{bits_at, bits_before, event_at, hands_sample, is_extraction, is_sample, samples_before}

-- ---- the first items of lists

taken : {A : Type 0} (n : ℕ) (xs : List A) (j : ℕ) (x : A) → slice_get (take n xs) j ≡ Some x → slice_get xs j ≡ Some x
taken zero xs j x e = cc
taken (suc n) [] j x e = e
taken (suc n) (y ∷ xs) zero x e = e
taken (suc n) (y ∷ xs) (suc j) x e = taken n xs j x e

alike_long : {A B : Type 0} (n : ℕ) (xs : List A) (ys : List B) → length xs ≡ length ys →
    length (take n xs) ≡ length (take n ys)
alike_long zero xs ys long = refl
alike_long (suc n) [] [] long = refl
alike_long (suc n) [] (y ∷ ys) long = absurd (omega arith)
alike_long (suc n) (x ∷ xs) [] long = absurd (omega arith)
alike_long (suc n) (x ∷ xs) (y ∷ ys) long = ap suc (alike_long n xs ys (omega arith))

none_within : {A : Type 0} (xs : List A) (n : ℕ) → slice_get xs n ≡ None → n < length xs → ⊥
none_within [] n e low = omega (arith, low)
none_within (x ∷ xs) zero e low = cc
none_within (x ∷ xs) (suc n) e low = none_within xs n e (omega arith)

-- ---- counting samples

root_is : (s : PoolState) (e : PoolEntry) → is_some (root_kept s e) ≡ is_extraction e
root_is s (Mix text bits) = refl
root_is s (Input word kind code value now) = refl
root_is s Bits = refl
root_is s (Extract hw base_place) = refl

length_one : {A : Type 0} (b : Bool) (x : A) (xs : List A) →
    (if b then 1 else 0) + length xs ≡ length (if b then x ∷ xs else xs)
length_one true x xs = omega arith
length_one false x xs = omega arith

module _ (script : Script) (moments : List Moment) where
  samples_alike : (i : ℕ) (kept : List KeptPool) (visits : List (Visit PoolEntry)) → length kept ≡ length visits →
      ((j : ℕ) (k : KeptPool) (v : Visit PoolEntry) → slice_get kept j ≡ Some k → slice_get visits j ≡ Some v →
      is_some k.root ≡ is_extraction v.entry) →
      ((j : ℕ) (v : Visit PoolEntry) → slice_get visits j ≡ Some v →
      slice_get moments (i + j) ≡ Some (visit_moment v)) →
      kept_samples script i kept moments ≡ length (filter (is_sample script) visits)
  samples_alike i [] [] long roots at = refl
  samples_alike i [] (v ∷ visits) long roots at = absurd (omega arith)
  samples_alike i (k ∷ kept) [] long roots at = absurd (omega arith)
  samples_alike i (k ∷ kept) (v ∷ visits) long roots at =
      let place : i ≡ i + 0 = omega arith in
      let here : slice_get moments i ≡ Some (visit_moment v) = ap (slice_get moments) place ∙ at 0 v refl in
      let rest : kept_samples script (suc i) kept moments ≡ length (filter (is_sample script) visits) =
      samples_alike (suc i) kept visits (omega arith) (λ j l w there is. roots (suc j) l w there is)
      (λ j w is. ap (slice_get moments) (let p : suc i + j ≡ i + suc j = omega arith in p) ∙ at (suc j) w is) in
      (λ n. sample_count script k (here n) + rest n)
      ∙ ap (λ b. (if not b && hands_sample (event_at script v.who.caller v.who.event) then 1 else 0)
      + length (filter (is_sample script) visits)) (roots 0 k v refl refl)
      ∙ length_one (is_sample script v) v (filter (is_sample script) visits)

module _ (book : Book) (pool : List KeptPool) (keeps : KeepsPoolLane pool (lists_of book)) where
  long : length pool ≡ length book.pool
  long = keeps.count ∙ length-map book.pool (λ visit. visit.entry)

  entry_at : (j : ℕ) (v : Visit PoolEntry) → slice_get book.pool j ≡ Some v →
      slice_get (entries_of book.pool) j ≡ Some v.entry
  entry_at j v is = slice_get-map (λ visit. visit.entry) book.pool j ∙ ap (option_map (λ visit. visit.entry)) is

  pub same_samples : (script : Script) (moments : List Moment) (place : ℕ) → moments ≡ visit_moments book.pool →
      kept_samples script 0 (take place pool) moments ≡ samples_before script book place
  same_samples script moments place are =
      samples_alike script moments 0 (take place pool) (take place book.pool) (alike_long place pool book.pool long)
      (λ j k v there is.
      ap is_some (keeps.each j k v.entry (taken place pool j k there) (entry_at j v (taken place book.pool j v is))).root
      ∙ root_is (pool_after (take j (lists_of book).pool)) v.entry)
      (λ j v is. ap (λ (ms : List Moment). slice_get ms (0 + j)) are
      ∙ ap (slice_get (visit_moments book.pool)) (let p : 0 + j ≡ j = omega arith in p)
      ∙ slice_get-map visit_moment book.pool j ∙ ap (option_map visit_moment) (taken place book.pool j v is))

  bits_alike : (place : ℕ) (k : Option KeptPool) (e : Option PoolEntry) → slice_get pool place ≡ k →
      slice_get (entries_of book.pool) place ≡ e → kept_bits k ≡ bits_at (entries_of book.pool) place e
  bits_alike place None None there is = refl
  bits_alike place (Some k) (Some e) there is = (keeps.each place k e there is).before
  bits_alike place None (Some e) there is =
      let low = slice_get_within (entries_of book.pool) place e is in
      let count = keeps.count in absurd (none_within pool place there (omega arith))
  bits_alike place (Some k) None there is =
      let low = slice_get_within pool place k there in
      let count = keeps.count in absurd (none_within (entries_of book.pool) place is (omega arith))

  pub same_bits : (place : ℕ) → kept_bits (slice_get pool place) ≡ bits_before book place
  same_bits place = bits_alike place (slice_get pool place) (slice_get (entries_of book.pool) place) refl refl
