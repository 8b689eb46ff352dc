-- A copy out of a vgetrandom state serves the bytes of the named spans that the copy's entries serve. If the batch
-- serves a vgetrandom call, the call's bytes are the bytes of the named spans that the call's last entries serve.
use Rattle.std.proofs.Common.{◌≡◌, ℕ, zero, suc, ◌+◌, ◌-◌, ◌*◌, min, ◌≤◌, Bool, true, false, List, [], ◌∷◌, ◌++◌, inl, inr, refl, sym, subst, ap, ◌∙◌, arith, Some, None, Option, take, drop, append-nil, append_assoc}
use Rattle.std.specs.Prelude.{if◌then◌else◌}
use Rattle.std.specs.List.{fold}
use Rattle.std.proofs.lemmas.Bool.{leb-true, leb-false}
use Rattle.key_names.specs.declared.names.KeyName.{KeyName}
use Rattle.key_names.specs.declared.entries.VEntry.{VEntry}
use Rattle.key_names.specs.declared.entries.VEntry.TheVariants.{Blocks, Refill}
use Rattle.key_names.specs.Kernel.Keystream.{keystream}
use Rattle.key_names.specs.Keys.KeyInUse.{value_of}
use Rattle.key_names.specs.Lanes.Book.{Lists}
use Rattle.key_names.specs.Lanes.StateList.{NamedState, state_step}
use Rattle.key_names.specs.Keys.Uses.{Use, kept, served, named_use, state_uses_at, uses_from}
use Rattle.key_names.specs.Kernel.VgetrandomState.{VgetrandomState}
use Rattle.key_names.specs.Kernel.BatchCopy.{bytes_left, whole_blocks, new_batch_bytes, has_left, copy_bytes, serve_entry, refill_entries, copy_entries}
use Rattle.key_names.specs.Keys.ServedNamed.{served_in, span_bytes, bytes_for}
use Rattle.key_names.specs.Transcripts.StatesReplayed.{HasName}
use Rattle.std.specs.Prelude.{◌==◌}
use Rattle.std.proofs.lemmas.Bool.{eqb-true}
use Rattle.std.proofs.lemmas.List.Sums.{fold-append}
use Rattle.key_names.specs.declared.entries.VEntry.TheVariants.{Rekey, Wipe}
use Rattle.key_names.specs.declared.names.LaneId.TheVariants.{Cpu as CpuLane}
use Rattle.key_names.specs.declared.names.KeyName.TheVariants.{Call}
use Rattle.key_names.specs.declared.point.Point.{Point}
use Rattle.key_names.specs.declared.point.Point.TheVariants.{Start, Written, Serve as ServePoint, End}
use Rattle.key_names.specs.Kernel.Flags.{is_bad}
use Rattle.key_names.specs.Kernel.VgetrandomState.{wiped_state, state_left}
use Rattle.key_names.specs.Kernel.BatchCopy.{state_after_copy, block_after_copy, state_of_same_batch, state_of_new_batch}
use Rattle.key_names.specs.Kernel.Vgetrandom.{SystemAnswer, read, failed, HostStep, publishes, system_call, AttemptEnd, holds, outdated, not_keyed, Attempt, prefix_attempt, wipe_entry, AtPoint, AfterKeyRead, FromEnd, FromServe, FromWritten, FromStart, IsAttempt, Ending, no_bytes, by_batch, by_system, Outcome, prefix_outcome, BySystem, ByNothing, AfterAttempt, AttemptAndRest, AfterBoth, state_after_call, SecondAttempt, FirstAttempt, FromLook, IsCall}
use Rattle.key_names.proofs.Vgetrandom.CallsKeep.{match_cases, some_bytes}
use Rattle.key_names.proofs.Vgetrandom.StatesReplay.{Good, good_append, KeyIs}
use Rattle.key_names.proofs.Standards.Keystreams.{keystream-add, take-keystream}
use Rattle.key_names.proofs.Vgetrandom.StatesReplay as replay

served_append : (lists : Lists) (us vs : List Use) → served_in lists (us ++ vs) ≡ served_in lists us ++ served_in lists vs
served_append lists [] vs = refl
served_append lists (u ∷ us) vs =
    ap (λ ys. bytes_for u.purpose (span_bytes lists u.span) ++ ys) (served_append lists us vs)
    ∙ sym (append_assoc (bytes_for u.purpose (span_bytes lists u.span)) (served_in lists us) (served_in lists vs))

pub uses_append : {S E : Type 0} (uses_at : S → E → List Use) (step : S → E → S) (s : S) (xs ys : List E) →
    uses_from uses_at step s (xs ++ ys) ≡ uses_from uses_at step s xs ++ uses_from uses_at step (fold step s xs) ys
uses_append uses_at step s [] ys = refl
uses_append uses_at step s (x ∷ xs) ys =
    ap (λ us. uses_at s x ++ us) (uses_append uses_at step (step s x) xs ys)
    ∙ sym (append_assoc (uses_at s x) (uses_from uses_at step (step s x) xs)
    (uses_from uses_at step (fold step (step s x) xs) ys))

module _ (lists : Lists) (caller k : ℕ) where
  abbrev Both : Type 0
  Both = replay.Both lists caller k

  abbrev after : Both → List VEntry → Both
  after = replay.after lists caller k

  abbrev pub entry_uses : NamedState → List VEntry → List Use
  entry_uses t es = uses_from state_uses_at (state_step caller k) t es

  -- in the replay `x`, the key has the value of its name, and the unserved bytes of the batch are keystream of the
  -- batch's named key
  pub record NamesTell (x : Both) : Type 0 where
    pub key : (name : KeyName) → x.named.key ≡ Some name → value_of lists name ≡ x.bytes.key
    pub rest : (name : KeyName) → x.named.batch_key ≡ Some name →
        drop x.named.pos x.bytes.batch
        ≡ keystream (value_of lists name) (64 * x.named.batch_from + x.named.pos) (96 - x.named.pos)

  -- if `o` is the key `name`, the use of `len` bytes from byte `from` on serves these bytes of the key's keystream
  one_served : (o : Option KeyName) (name : KeyName) (from len : ℕ) → o ≡ Some name →
      served_in lists (named_use served o from len) ≡ keystream (value_of lists name) from len
  one_served o name from len is =
      ap (λ o. served_in lists (named_use served o from len)) is
      ∙ append-nil (keystream (value_of lists name) from len)

  none_kept : (o : Option KeyName) (from len : ℕ) → served_in lists (named_use kept o from len) ≡ []
  none_kept None from len = refl
  none_kept (Some name) from len = refl

  -- if the batch's key has a name, the entry for serving `n` bytes of the batch serves these bytes of that key's
  -- keystream
  serve_named : (t : NamedState) (name : KeyName) (pos n : ℕ) → t.batch_key ≡ Some name →
      served_in lists (entry_uses t (serve_entry pos n))
      ≡ keystream (value_of lists name) (64 * t.batch_from + pos) n
  serve_named t name pos zero is = refl
  serve_named t name pos (suc n) is =
      ap (served_in lists) (append-nil (named_use served t.batch_key (64 * t.batch_from + pos) (suc n)))
      ∙ one_served t.batch_key name (64 * t.batch_from + pos) (suc n) is

  -- if the key has a name, a refill and the entry after it serve the first `r` bytes of the new batch
  new_named : (t : NamedState) (name : KeyName) (at r : ℕ) → t.key ≡ Some name →
      served_in lists (entry_uses t (Refill at ∷ serve_entry 0 r)) ≡ keystream (value_of lists name) (64 * at) r
  new_named t name at r is =
      let u : NamedState = state_step caller k t (Refill at) in
      let first : 64 * at + 0 ≡ 64 * at = omega arith in
      served_append lists (named_use kept t.key (64 * at + 96) 32) (entry_uses u (serve_entry 0 r))
      ∙ ap (λ ys. ys ++ served_in lists (entry_uses u (serve_entry 0 r))) (none_kept t.key (64 * at + 96) 32)
      ∙ serve_named u name 0 r is ∙ ap (λ f. keystream (value_of lists name) f r) first

  refill_named : (t : NamedState) (name : KeyName) (c m r : ℕ) → t.key ≡ Some name →
      served_in lists (entry_uses t (refill_entries c m r))
      ≡ keystream (value_of lists name) (64 * c) (64 * m + r)
  refill_named t name c zero r is =
      let at : 64 * (c + 0) ≡ 64 * c = omega arith in
      let len : r ≡ 64 * 0 + r = omega arith in
      new_named t name (c + 0) r is ∙ ap (λ f. keystream (value_of lists name) f r) at
      ∙ ap (keystream (value_of lists name) (64 * c)) len
  refill_named t name c (suc m) r is =
      let u : NamedState = state_step caller k t (Blocks c (suc m)) in
      let es : List VEntry = Refill (c + suc m) ∷ serve_entry 0 r in
      let at : 64 * (c + suc m) ≡ 64 * c + 64 * suc m = omega arith in
      served_append lists (named_use served t.key (64 * c) (64 * suc m)) (entry_uses u es)
      ∙ ap (λ ys. ys ++ served_in lists (entry_uses u es)) (one_served t.key name (64 * c) (64 * suc m) is)
      ∙ ap (λ ys. keystream (value_of lists name) (64 * c) (64 * suc m) ++ ys)
      (new_named u name (c + suc m) r is ∙ ap (λ f. keystream (value_of lists name) f r) at)
      ∙ sym (keystream-add (value_of lists name) (64 * c) (64 * suc m) r)

  -- a copy out of a state with named keys serves the bytes of the spans that the copy's entries serve
  pub copy_named : (x : Both) (s : VgetrandomState) (c n : ℕ) → 1 ≤ n → replay.Holds lists caller k x s →
      1 ≤ s.generation → NamesTell x →
      copy_bytes s c n ≡ served_in lists (entry_uses x.named (copy_entries s c n))
  copy_named x s c n some h known tell = go (has_left s n) refl
    where
      key : HasName x.named.key
      key = (h.named known).0

      left : ℕ
      left = bytes_left s

      -- the entry for serving `len` bytes of the batch serves the first `len` unserved bytes of the batch
      front : (len : ℕ) → len ≤ 96 - s.pos →
          take len (drop s.pos s.batch) ≡ served_in lists (entry_uses x.named (serve_entry s.pos len))
      front zero le = refl
      front (suc len) le = elim (h.named known).1 [
        | inl full ↦ absurd (let p = h.pos in omega arith)
        | inr name ↦ (let at : x.named.pos ≡ s.pos = h.pos in
            let rest : drop s.pos s.batch
            ≡ keystream (value_of lists name.0) (64 * x.named.batch_from + s.pos) (96 - s.pos) =
            ap (drop s.pos) (sym h.batch)
            ∙ (let P : ℕ → Type 0 = λ i. drop i x.bytes.batch
            ≡ keystream (value_of lists name.0) (64 * x.named.batch_from + i) (96 - i) in
            subst P at (tell.rest name.0 name.1)) in
            ap (take (suc len)) rest
            ∙ take-keystream (value_of lists name.0) (64 * x.named.batch_from + s.pos) (96 - s.pos) (suc len) le
            ∙ sym (serve_named x.named name.0 s.pos (suc len) name.1))
      ]

      value : s.key ≡ value_of lists key.0
      value = sym h.key ∙ sym (tell.key key.0 key.1)

      go : (b : Bool) → has_left s n ≡ b →
          copy_bytes s c n ≡ served_in lists (entry_uses x.named (if b then serve_entry s.pos n
          else serve_entry s.pos (bytes_left s) ++ refill_entries c (whole_blocks s n) (new_batch_bytes s n)))
      go true is =
          let le : n ≤ 96 - s.pos = leb-true n (bytes_left s) is in
          let all : min n (bytes_left s) ≡ n = omega arith in
          let none : n - bytes_left s ≡ 0 = omega arith in
          ap (λ i. take i (drop s.pos s.batch) ++ keystream s.key (64 * c) (n - bytes_left s)) all
          ∙ ap (λ i. take n (drop s.pos s.batch) ++ keystream s.key (64 * c) i) none
          ∙ append-nil (take n (drop s.pos s.batch)) ∙ front n le
      go false is =
          let le : bytes_left s ≤ n = (let lt = leb-false n (bytes_left s) is in omega arith) in
          let all : min n (bytes_left s) ≡ bytes_left s = omega arith in
          let fits : bytes_left s ≤ 96 - s.pos = omega arith in
          let xs : List VEntry = serve_entry s.pos (bytes_left s) in
          let ys : List VEntry = refill_entries c (whole_blocks s n) (new_batch_bytes s n) in
          let u : Both = after x xs in
          let v = replay.serve_after lists caller k x s.pos (bytes_left s) h.pos in
          let split : n - bytes_left s ≡ 64 * whole_blocks s n + new_batch_bytes s n = omega arith in
          let following : NamedState = fold (state_step caller k) x.named xs in
          let same : following.key ≡ x.named.key = serve_keeps x.named s.pos (bytes_left s) in
          ap (λ i. take i (drop s.pos s.batch) ++ keystream s.key (64 * c) (n - bytes_left s)) all
          ∙ ap (λ zs. zs ++ keystream s.key (64 * c) (n - bytes_left s)) (front (bytes_left s) fits)
          ∙ ap (λ zs. served_in lists (entry_uses x.named xs) ++ zs)
          (ap (λ w. keystream w (64 * c) (n - bytes_left s)) value
          ∙ ap (keystream (value_of lists key.0) (64 * c)) split
          ∙ sym (refill_named following key.0 c (whole_blocks s n) (new_batch_bytes s n) (same ∙ key.1)))
          ∙ sym (served_append lists (entry_uses x.named xs) (entry_uses following ys))
          ∙ ap (served_in lists) (sym (uses_append state_uses_at (state_step caller k) x.named xs ys))
        where
          serve_keeps : (t : NamedState) (pos len : ℕ) →
              (fold (state_step caller k) t (serve_entry pos len)).key ≡ t.key
          serve_keeps t pos zero = refl
          serve_keeps t pos (suc len) = refl

  named_is : (x : Both) (es : List VEntry) → (after x es).named ≡ fold (state_step caller k) x.named es
  named_is x [] = refl
  named_is x (e ∷ es) = named_is (replay.step lists caller k x e) es

  -- NamesTell holds after each prefix `pre` of the entries `es`
  abbrev pub Fronts : Both → List VEntry → Type 0
  Fronts x es = (pre post : List VEntry) → es ≡ pre ++ post → NamesTell (after x pre)

  pub fronts_after : (x : Both) (xs ys : List VEntry) → Fronts x (xs ++ ys) → Fronts (after x xs) ys
  fronts_after x xs ys fronts pre post is =
      let P : Both → Type 0 = λ y. NamesTell y in
      subst P (fold-append (replay.step lists caller k) x xs pre)
      (fronts (xs ++ pre) post (ap (λ zs. xs ++ zs) is ∙ sym (append_assoc xs pre post)))

  -- the bytes of the named spans that the entries `es` serve after the replay `x`
  abbrev pub bytes_of : Both → List VEntry → List ℕ
  bytes_of x es = served_in lists (entry_uses x.named es)

  bytes_append : (x : Both) (xs ys : List VEntry) → bytes_of x (xs ++ ys) ≡ bytes_of x xs ++ bytes_of (after x xs) ys
  bytes_append x xs ys =
      ap (served_in lists) (uses_append state_uses_at (state_step caller k) x.named xs ys)
      ∙ served_append lists (entry_uses x.named xs) (entry_uses (fold (state_step caller k) x.named xs) ys)
      ∙ ap (λ t. bytes_of x xs ++ served_in lists (entry_uses t ys)) (sym (named_is x xs))

  -- if NamesTell holds after each prefix of an attempt's entries, and the attempt held, then the attempt copied the
  -- bytes that its entries serve
  abbrev pub AttemptNamed : Both → Attempt → Type 0
  AttemptNamed x attempt = Fronts x attempt.entries → attempt.end ≡ holds → attempt.out ≡ bytes_of x attempt.entries

  after_named : (x : Both) (es : List VEntry) (attempt later : Attempt) →
      attempt ≡ record later { entries = es ++ later.entries } → bytes_of x es ≡ [] →
      AttemptNamed (after x es) later → AttemptNamed x attempt
  after_named x es attempt later is none h =
      let P : Attempt → Type 0 = λ a. AttemptNamed x a in
      subst P (sym is) (λ fronts held. h (fronts_after x es later.entries fronts) held
      ∙ ap (λ zs. zs ++ bytes_of (after x es) later.entries) (sym none)
      ∙ sym (bytes_append x es later.entries))

  point_named : (Before : Both → VgetrandomState → Type 0) →
      ((x : Both) → Before (replay.step lists caller k x Wipe) wiped_state) →
      (point : Point) (GoesOn : VgetrandomState → List HostStep → Attempt → Type 0) (x : Both)
      (s : VgetrandomState) (steps : List HostStep) (attempt : Attempt) →
      ((u : Both) (r : VgetrandomState) (rest : List HostStep) (later : Attempt) → Good lists rest →
      GoesOn r rest later → Before u r → AttemptNamed u later) →
      AtPoint point GoesOn s steps attempt → Good lists steps → Before x s → AttemptNamed x attempt
  point_named Before wiped_before point GoesOn x s steps attempt on at good h = go at.wiped at.goes_on at.attempt_is
    where
      rest_good : Good lists at.rest
      rest_good = subst (λ (xs : List HostStep). Good lists xs) at.steps_are good

      go : (b : Bool) → GoesOn (state_left b s) at.rest at.attempt_after →
          attempt ≡ prefix_attempt (wipe_entry b) at.attempt_after → AttemptNamed x attempt
      go false g is = after_named x [] attempt at.attempt_after is refl (on x s at.rest at.attempt_after rest_good g h)
      go true g is = after_named x (Wipe ∷ []) attempt at.attempt_after is refl
          (on (replay.step lists caller k x Wipe) wiped_state at.rest at.attempt_after rest_good g (wiped_before x))

  copy_generation : (s : VgetrandomState) (c n : ℕ) → (state_after_copy s c n).generation ≡ s.generation
  copy_generation s c n = go (has_left s n)
    where
      go : (b : Bool) → (if b then state_of_same_batch s n
          else state_of_new_batch s (c + whole_blocks s n) (new_batch_bytes s n)).generation ≡ s.generation
      go true = refl
      go false = refl

  held_if : (b : Bool) → (if b then holds else outdated) ≡ holds → b ≡ true
  held_if true is = refl
  held_if false is = cc

  pub from_serve_named : (n c : ℕ) → 1 ≤ n → (x : Both) (s : VgetrandomState) (steps : List HostStep)
      (attempt : Attempt) → Good lists steps → FromServe n c s steps attempt → replay.Holds lists caller k x s →
      AttemptNamed x attempt
  from_serve_named n c some x s steps attempt good from h fronts held =
      go at.wiped at.goes_on at.attempt_is
    where
      s' : VgetrandomState
      s' = state_after_copy s c n

      at : AtPoint End (FromEnd (copy_bytes s c n) (block_after_copy s c n)) s' steps from.attempt_after
      at = from.goes_on

      rest_good : Good lists at.rest
      rest_good = subst (λ (xs : List HostStep). Good lists xs) at.steps_are good

      published : (e : List HostStep) (g : ℕ) → at.rest ≡ publishes g ∷ e → 1 ≤ g
      published e g is = (subst (λ (xs : List HostStep). Good lists xs) is rest_good).0

      go : (b : Bool) →
          FromEnd (copy_bytes s c n) (block_after_copy s c n) (state_left b s') at.rest at.attempt_after →
          from.attempt_after ≡ prefix_attempt (wipe_entry b) at.attempt_after →
          attempt.out ≡ bytes_of x attempt.entries
      go true e is =
          let end : attempt.end ≡ (if 0 == e.published then holds else outdated) =
          ap (λ (a : Attempt). a.end) (from.attempt_is) ∙ ap (λ (a : Attempt). a.end) is
          ∙ ap (λ (a : Attempt). a.end) e.attempt_is in
          let zero_is : 0 ≡ e.published = eqb-true 0 e.published (held_if (0 == e.published) (sym end ∙ held)) in
          let some : 1 ≤ e.published = published [] e.published e.steps_are in absurd (omega arith)
      go false e is =
          let end : attempt.end ≡ (if s'.generation == e.published then holds else outdated) =
          ap (λ (a : Attempt). a.end) (from.attempt_is) ∙ ap (λ (a : Attempt). a.end) is
          ∙ ap (λ (a : Attempt). a.end) e.attempt_is in
          let same : s'.generation ≡ e.published =
          eqb-true s'.generation e.published (held_if (s'.generation == e.published) (sym end ∙ held)) in
          let some_g : 1 ≤ e.published = published [] e.published e.steps_are in
          let gen : s'.generation ≡ s.generation = copy_generation s c n in
          let known : 1 ≤ s.generation = omega arith in
          let es : attempt.entries ≡ copy_entries s c n ++ [] =
          ap (λ (a : Attempt). a.entries) (from.attempt_is)
          ∙ ap (λ (a : Attempt). copy_entries s c n ++ a.entries) is
          ∙ ap (λ (a : Attempt). copy_entries s c n ++ a.entries) e.attempt_is in
          ap (λ (a : Attempt). a.out) (from.attempt_is) ∙ ap (λ (a : Attempt). a.out) is
          ∙ ap (λ (a : Attempt). a.out) e.attempt_is
          ∙ copy_named x s c n some h known (fronts [] attempt.entries refl)
          ∙ ap (bytes_of x) (sym (append-nil (copy_entries s c n)) ∙ sym es)

  serve_point_named : (n c : ℕ) → 1 ≤ n → (x : Both) (s : VgetrandomState) (steps : List HostStep)
      (attempt : Attempt) → Good lists steps → AtPoint ServePoint (FromServe n c) s steps attempt →
      replay.Holds lists caller k x s → AttemptNamed x attempt
  serve_point_named n c some x s steps attempt good at h =
      point_named (replay.Holds lists caller k) (replay.wiped_holds lists caller k) ServePoint (FromServe n c) x s steps
      attempt (λ u r rest later g f b. from_serve_named n c some u r rest later g f b) at good h

  pub written_named : (n c : ℕ) → 1 ≤ n → (x : Both) (s : VgetrandomState) (steps : List HostStep) (attempt : Attempt) →
      Good lists steps → FromWritten n c s steps attempt → replay.Loose lists caller k x s → AttemptNamed x attempt
  written_named n c some x s steps attempt good from h =
      let g : Good lists (system_call 32 0 from.answer ∷ from.rest) =
      subst (λ (xs : List HostStep). Good lists xs) from.steps_are good in
      go from.answer (g.0 refl refl) g.1 from.goes_on
    where
      go : (answer : SystemAnswer) → KeyIs lists answer → Good lists from.rest →
          AfterKeyRead n c answer s from.rest attempt → AttemptNamed x attempt
      go (read key None) is g keyed = absurd is
      go (read key (Some at)) is g keyed =
          after_named x (Rekey at.cpu at.place ∷ []) attempt keyed.attempt_after keyed.attempt_is refl
          (serve_point_named n c some (replay.step lists caller k x (Rekey at.cpu at.place))
          (record s { key = key; pos = 96 }) from.rest keyed.attempt_after g keyed.goes_on (record {
            batch = h.batch;
            pos = refl;
            key = sym is;
            named = λ some. ((Call (CpuLane at.cpu) at.place, refl), inl refl);
          }))
      go (failed errno) is g unkeyed = absurd is

  pub start_named : (n c published : ℕ) → 1 ≤ n → (x : Both) (s : VgetrandomState) (steps : List HostStep)
      (attempt : Attempt) → Good lists steps → FromStart n c published s steps attempt →
      replay.Holds lists caller k x s → AttemptNamed x attempt
  start_named n c published some x s steps attempt good from h =
      match_cases (AtPoint ServePoint (FromServe n c) s steps attempt)
      (AtPoint Written (FromWritten n c) (record s { generation = published }) steps attempt)
      (AttemptNamed x attempt) (s.generation == published)
      (λ is at. serve_point_named n c some x s steps attempt good at h)
      (λ is at. point_named (replay.Loose lists caller k) (replay.wiped_loose lists caller k) Written (FromWritten n c) x
      (record s { generation = published }) steps attempt
      (λ u r rest later g f b. written_named n c some u r rest later g f b) at good
      (record { batch = h.batch; pos = h.pos }))
      from

  pub attempt_named : (n c : ℕ) → 1 ≤ n → (x : Both) (s : VgetrandomState) (steps : List HostStep)
      (attempt : Attempt) → Good lists steps → IsAttempt n c s steps attempt → replay.Holds lists caller k x s →
      AttemptNamed x attempt
  attempt_named n c some x s steps attempt good is h =
      let g : (1 ≤ is.published) × Good lists is.rest =
      subst (λ (xs : List HostStep). Good lists xs) is.steps_are good in
      point_named (replay.Holds lists caller k) (replay.wiped_holds lists caller k) Start (FromStart n c is.published) x s
      is.rest attempt (λ u r rest later good f b. start_named n c is.published some u r rest later good f b)
      is.goes_on g.1 h

  -- the last of the entries `es` serve the bytes `out`
  pub record LastServes (x : Both) (es : List VEntry) (out : List ℕ) : Type 0 where
    pub earlier : List VEntry
    pub last : List VEntry
    pub entries_are : es ≡ earlier ++ last
    pub bytes_are : out ≡ bytes_of (after x earlier) last

  -- if NamesTell holds after each prefix of a call's entries, and the batch served the call, then the call's last
  -- entries serve the bytes that the call gave
  abbrev pub OutcomeNamed : Both → Outcome → Type 0
  OutcomeNamed x outcome = Fronts x outcome.entries → (out : List ℕ) → outcome.ending ≡ by_batch out →
      LastServes x outcome.entries out

  abbrev batch_out : Ending → List ℕ
  batch_out no_bytes = []
  batch_out (by_batch out) = out
  batch_out (by_system answer) = []

  pub system_named : (n flags : ℕ) (x : Both) (s : VgetrandomState) (steps : List HostStep) (outcome : Outcome) →
      BySystem n flags s steps outcome → OutcomeNamed x outcome
  system_named n flags x s steps outcome by fronts out ends =
      let e : by_system by.answer ≡ by_batch out = sym (ap (λ (o : Outcome). o.ending) by.outcome_is) ∙ ends in cc

  -- if AttemptNamed holds for an attempt, and OutcomeNamed for the rest of its call, then OutcomeNamed holds for the
  -- attempt and the rest together
  pub rest_named : (n flags : ℕ) (Outdated : ℕ → VgetrandomState → List HostStep → Outcome → Type 0)
      (Tried : List HostStep → Attempt → Type 0) (x : Both) (steps : List HostStep) (outcome : Outcome) →
      ((tried : List HostStep) (attempt : Attempt) → Good lists tried → Tried tried attempt → AttemptNamed x attempt) →
      ((tried : List HostStep) (attempt : Attempt) → Good lists tried → Tried tried attempt → attempt.end ≡ outdated →
      replay.AttemptHolds lists caller k x attempt) →
      ((u : Both) (c : ℕ) (v : VgetrandomState) (rest : List HostStep) (later : Outcome) → Good lists rest →
      Outdated c v rest later → replay.Holds lists caller k u v → OutcomeNamed u later) → Good lists steps →
      AttemptAndRest n flags Outdated Tried steps outcome → OutcomeNamed x outcome
  rest_named n flags Outdated Tried x steps outcome named leaves goes_on good r =
      let P : Outcome → Type 0 = λ o. OutcomeNamed x o in subst P (sym r.outcome_is) (go r.attempt.end refl r.goes_on)
    where
      split : Good lists r.tried × Good lists r.rest
      split = good_append lists r.tried r.rest (subst (λ (xs : List HostStep). Good lists xs) r.steps_are good)

      u : Both
      u = after x r.attempt.entries

      go : (end : AttemptEnd) → r.attempt.end ≡ end →
          AfterAttempt n flags Outdated end r.attempt r.rest r.outcome_after →
          OutcomeNamed x (prefix_outcome r.attempt.entries r.outcome_after)
      go holds held by fronts out ends =
          let none : r.outcome_after.entries ≡ [] = ap (λ (o : Outcome). o.entries) by.outcome_is in
          let all : r.attempt.entries ++ r.outcome_after.entries ≡ r.attempt.entries =
          ap (λ es. r.attempt.entries ++ es) none ∙ append-nil r.attempt.entries in
          let own : Fronts x r.attempt.entries = (let P : List VEntry → Type 0 = λ es. Fronts x es in
          subst P all fronts) in
          let same : out ≡ r.attempt.out = sym (ap batch_out ends)
          ∙ ap (λ (o : Outcome). batch_out o.ending) by.outcome_is in
          record {
            earlier = [];
            last = r.attempt.entries;
            entries_are = all;
            bytes_are = same ∙ named r.tried r.attempt split.0 r.tries own held;
          }
      go outdated held by fronts out ends =
          let m : LastServes u r.outcome_after.entries out =
          goes_on u r.attempt.next_block r.attempt.state r.rest r.outcome_after split.1 by
          (leaves r.tried r.attempt split.0 r.tries held)
          (fronts_after x r.attempt.entries r.outcome_after.entries fronts) out ends in
          record {
            earlier = r.attempt.entries ++ m.earlier;
            last = m.last;
            entries_are = ap (λ es. r.attempt.entries ++ es) m.entries_are
                ∙ sym (append_assoc r.attempt.entries m.earlier m.last);
            bytes_are = m.bytes_are ∙ ap (λ (y : Both). bytes_of y m.last)
                (sym (fold-append (replay.step lists caller k) x r.attempt.entries m.earlier));
          }
      go not_keyed held by fronts out ends =
          let m : LastServes u r.outcome_after.entries out =
          system_named n flags u (state_after_call r.attempt.state) r.rest r.outcome_after by
          (fronts_after x r.attempt.entries r.outcome_after.entries fronts) out ends in
          record {
            earlier = r.attempt.entries ++ m.earlier;
            last = m.last;
            entries_are = ap (λ es. r.attempt.entries ++ es) m.entries_are
                ∙ sym (append_assoc r.attempt.entries m.earlier m.last);
            bytes_are = m.bytes_are ∙ ap (λ (y : Both). bytes_of y m.last)
                (sym (fold-append (replay.step lists caller k) x r.attempt.entries m.earlier));
          }

  pub tried_named : (n flags c : ℕ) → 1 ≤ n → (Outdated : ℕ → VgetrandomState → List HostStep → Outcome → Type 0)
      (x : Both) (s : VgetrandomState) (steps : List HostStep) (outcome : Outcome) →
      ((u : Both) (c : ℕ) (v : VgetrandomState) (rest : List HostStep) (later : Outcome) → Good lists rest →
      Outdated c v rest later → replay.Holds lists caller k u v → OutcomeNamed u later) → Good lists steps →
      AttemptAndRest n flags Outdated (IsAttempt n c s) steps outcome → replay.Holds lists caller k x s →
      OutcomeNamed x outcome
  tried_named n flags c some Outdated x s steps outcome goes_on good r h =
      rest_named n flags Outdated (IsAttempt n c s) x steps outcome
      (λ tried attempt g tries. attempt_named n c some x s tried attempt g tries h)
      (λ tried attempt g tries late. replay.attempt_holds lists caller k n c some x s tried attempt g tries h) goes_on good r

  first_named : (n flags : ℕ) → 1 ≤ n → (x : Both) (s : VgetrandomState) (steps : List HostStep)
      (outcome : Outcome) → Good lists steps → FirstAttempt n flags s steps outcome → replay.Holds lists caller k x s →
      OutcomeNamed x outcome
  first_named n flags some x s steps outcome good first h =
      tried_named n flags 0 some (SecondAttempt n flags) x s steps outcome
      (λ u c v rest later g second b. tried_named n flags c some (AfterBoth n flags) u v rest later
      (λ w d y end last g by b. system_named n flags w (state_after_call y) end last by) g second b) good first h

  nothing_named : (x : Both) (s : VgetrandomState) (steps : List HostStep) (outcome : Outcome) →
      ByNothing s steps outcome → OutcomeNamed x outcome
  nothing_named x s steps outcome by fronts out ends =
      let e : no_bytes ≡ by_batch out = sym (ap (λ (o : Outcome). o.ending) by.outcome_is) ∙ ends in cc

  -- if the state of a vgetrandom call matches the replay of its list, and the steps are good, then OutcomeNamed holds
  -- for the call
  pub call_named : (n flags : ℕ) (x : Both) (s : VgetrandomState) (steps : List HostStep) (outcome : Outcome) →
      replay.GoodAfter lists caller k steps → IsCall n flags s steps outcome → replay.Holds lists caller k x s →
      OutcomeNamed x outcome
  call_named n flags x s steps outcome good is h =
      match_cases (BySystem n flags s steps outcome) (FromLook n flags s steps outcome) (OutcomeNamed x outcome)
      (is_bad flags)
      (λ bad by. system_named n flags x s steps outcome by)
      (λ fine look. match_cases (BySystem n flags s look.rest outcome) _ (OutcomeNamed x outcome) (look.published == 0)
      (λ zero by. system_named n flags x s look.rest outcome by)
      (λ ready. match_cases (ByNothing s look.rest outcome) _ (OutcomeNamed x outcome) (n == 0)
      (λ none by. nothing_named x s look.rest outcome by)
      (λ some. match_cases (BySystem n flags s look.rest outcome)
      (FirstAttempt n flags (record s { in_use = true }) look.rest outcome) (OutcomeNamed x outcome) s.in_use
      (λ inside by. system_named n flags x s look.rest outcome by)
      (λ outside first. first_named n flags (some_bytes n some) x (record s { in_use = true }) look.rest outcome
      (good look.published look.rest look.steps_are (some_bytes look.published ready)) first
      (record { batch = h.batch; pos = h.pos; key = h.key; named = h.named }))))
      look.goes_on)
      is
