-- A lawful book uses no byte twice, and it is erased. Each holder (the base, a CPU, a vgetrandom state) has its own
-- names, so the proof treats the lists one by one.
use Rattle.std.proofs.Common.{◌≡◌, ℕ, zero, suc, ◌+◌, ◌-◌, ◌*◌, ◌≤◌, ◌<◌, List, [], ◌∷◌, ◌++◌, inl, inr, refl, sym, subst, ap, ◌∙◌, arith, Some, None, Option, length, take, replicate}
use Rattle.std.specs.Option.{option_map_or}
use Rattle.key_names.specs.declared.names.LaneId.TheVariants.{Pool as PoolLane, Base as BaseLane, Cpu as CpuLane}
use Rattle.key_names.specs.declared.names.KeyName.{KeyName}
use Rattle.key_names.specs.declared.names.KeyName.TheVariants.{Root, Base, Cpu, Call, Vdso}
use Rattle.key_names.specs.declared.entries.Taken.{Taken}
use Rattle.key_names.specs.declared.entries.Taken.TheVariants.{User}
use Rattle.key_names.specs.declared.entries.CpuEntry.{CpuEntry}
use Rattle.key_names.specs.declared.entries.VEntry.{VEntry}
use Rattle.key_names.specs.declared.entries.VEntry.TheVariants.{Rekey, Blocks, Refill, Serve, Wipe}
use Rattle.key_names.specs.Lanes.LawfulList.{LawfulFrom}
use Rattle.key_names.specs.declared.names.Span.{Span}
use Rattle.key_names.specs.Kernel.Batches.{Fill}
use Rattle.key_names.proofs.Uses.BatchBytes.{BatchOk, cpu_batches_ok, state_batches_ok}
use Rattle.key_names.specs.Lanes.BaseList.{refill_at}
use Rattle.key_names.specs.Lanes.CpuList.{taken_at}
use Rattle.key_names.specs.Lanes.StateList.{NamedState, state_start, state_step, StateMayCome, rekey_at}
use Rattle.key_names.specs.Lanes.Book.{Lists, list_at, cpu_list, state_list, ForwardLawful, LawfulStates, StatePlace, rekey_in}
use Rattle.key_names.specs.Keys.Uses.{Use, HoldsByte, IsUsed, IsDisjoint, Disjoint, base_uses, cpu_uses, state_uses, caller_uses, uses, uses_below, is_rekeyed}
use Rattle.key_names.specs.Keys.LiveMaterial.{KeyHolder, base_key, cpu_key, state_key, BatchHolder, cpu_batch, state_batch, live_key, live_rest, served_len, fill_rest, named_span, state_rest, cpu_end, state_end, WasReplaced, replayed_batch, cpu_bytes_start, state_bytes_start, IsErased, LawfulIsDisjoint, LawfulIsErased, HalfFinishedIsDisjoint, HalfFinishedIsErased}
use Rattle.key_names.proofs.Uses.UseLists.{IsUsed-append_cases, Disjoint-append, Part, OwnFrom, parts_below, used_below, UsesByte, IsLong}
use Rattle.key_names.proofs.Uses.BaseUses as base_side
use Rattle.key_names.proofs.Uses.BatchFills.{InBatch}
use Rattle.key_names.proofs.Uses.CpuNames as cpu_names
use Rattle.key_names.proofs.Uses.CpuUses as cpu_side
use Rattle.key_names.proofs.Uses.StateUses as state_side

-- only entries of this holder's list can use the name k
abbrev pub Own : Lists → KeyHolder → KeyName → Type 0
Own lists base_key k = base_side.IsLater (refill_at lists.base) 0 0 k
Own lists (cpu_key c) k = cpu_names.IsLater lists.base c (taken_at (cpu_list lists c)) 0 k
Own lists (state_key caller state) k = state_side.IsLater caller state (rekey_at (state_list lists caller state)) 0 0 k

-- no name belongs to two CPUs
cpus_apart : (lists : Lists) (c d : ℕ) (k : KeyName) → Own lists (cpu_key c) k → Own lists (cpu_key d) k → c ≡ d
cpus_apart lists c d (Root r) a b = absurd a
cpus_apart lists c d (Base i) a b = absurd a
cpus_apart lists c d (Cpu x i) a b = sym a.0 ∙ b.0
cpus_apart lists c d (Call PoolLane i) a b = absurd a
cpus_apart lists c d (Call BaseLane i) a b = ap (λ o. option_map_or (λ p. p.0) o 0) (sym (a.1).is ∙ (b.1).is)
cpus_apart lists c d (Call (CpuLane x) i) a b = sym a.0 ∙ b.0
cpus_apart lists c d (Vdso x v n) a b = absurd a

-- no name belongs to the base and a CPU
base_cpu_apart : (lists : Lists) (c : ℕ) (k : KeyName) → Own lists base_key k → Own lists (cpu_key c) k → ⊥
base_cpu_apart lists c (Root r) a b = b
base_cpu_apart lists c (Base i) a b = b
base_cpu_apart lists c (Cpu x i) a b = a
base_cpu_apart lists c (Call PoolLane i) a b = a
base_cpu_apart lists c (Call BaseLane i) a b = let p = a.1 in let q = (b.1).is in cc
base_cpu_apart lists c (Call (CpuLane x) i) a b = a
base_cpu_apart lists c (Vdso x v n) a b = a

base_state_apart : (lists : Lists) (caller state : ℕ) (k : KeyName) → Own lists base_key k →
    Own lists (state_key caller state) k → ⊥
base_state_apart lists caller state k a (inl v) =
    let P : KeyName → Type 0 = λ x. Own lists base_key x in subst P (sym v.is) a
base_state_apart lists caller state k a (inr t) =
    let P : KeyName → Type 0 = λ x. Own lists base_key x in subst P (sym t.is) a

-- each read that an entry of a state takes as a key has 32 bytes
taken_read : (cpus : ℕ → List CpuEntry) (caller state : ℕ) (s : NamedState) (es : List VEntry) (n cpu place : ℕ) →
    LawfulFrom (StateMayCome cpus) (state_step caller state) s es → rekey_at es n ≡ Some (cpu, place) →
    taken_at (cpus cpu) place ≡ Some (User 32)
taken_read cpus caller state s [] n cpu place lawful is = cc
taken_read cpus caller state s (e ∷ es) (suc n) cpu place lawful is =
    taken_read cpus caller state (state_step caller state s e) es n cpu place lawful.1 is
taken_read cpus caller state s (Rekey c k ∷ es) zero cpu place lawful is =
    let p : c ≡ cpu = ap (λ o. option_map_or (λ (x : ℕ × ℕ). x.0) o 0) is in
    let q : k ≡ place = ap (λ o. option_map_or (λ (x : ℕ × ℕ). x.1) o 0) is in
    ap (λ x. taken_at (cpus x) place) (sym p) ∙ ap (taken_at (cpus c)) (sym q) ∙ lawful.0.1
taken_read cpus caller state s (Blocks from count ∷ es) zero cpu place lawful is = cc
taken_read cpus caller state s (Refill from ∷ es) zero cpu place lawful is = cc
taken_read cpus caller state s (Serve pos len ∷ es) zero cpu place lawful is = cc
taken_read cpus caller state s (Wipe ∷ es) zero cpu place lawful is = cc

-- the uses of a holder
abbrev pub uses_of : Lists → KeyHolder → List Use
uses_of lists base_key = base_uses lists
uses_of lists (cpu_key c) = cpu_uses lists c
uses_of lists (state_key caller state) = state_uses lists caller state

-- if the lists use a byte, some holder uses it
pub used_by : (lists : Lists) (k : KeyName) (q : ℕ) → IsUsed (uses lists) k q →
    (h : KeyHolder) × IsUsed (uses_of lists h) k q
used_by lists k q h = elim (IsUsed-append_cases (base_uses lists ++ uses_below (length lists.cpus) (cpu_uses lists))
    (uses_below (length lists.callers) (caller_uses lists)) k q h) [
      | inl l ↦ elim (IsUsed-append_cases (base_uses lists) (uses_below (length lists.cpus) (cpu_uses lists)) k q l) [
        | inl a ↦ (base_key, a)
        | inr b ↦ (let m = used_below (cpu_uses lists) (length lists.cpus) k q b in (cpu_key m.0, m.1))
      ]
      | inr r ↦ (let m = used_below (caller_uses lists) (length lists.callers) k q r in
          let n = used_below (state_uses lists m.0) (length (list_at lists.callers m.0)) k q m.1 in
          (state_key m.0 n.0, n.1))
    ]

-- the holder whose key a batch was filled with
abbrev pub owner : BatchHolder → KeyHolder
owner (cpu_batch c width) = cpu_key c
owner (state_batch caller state) = state_key caller state

-- if the span of `len` bytes from `from` on has byte q of key k, then `o` names k, and q is one of these bytes
pub named_byte : (o : Option KeyName) (from len : ℕ) (span : Span) (k : KeyName) (q : ℕ) →
    named_span o from len ≡ Some span → HoldsByte span k q → UsesByte o from len k q
named_byte None from len span k q is h = cc
named_byte (Some key) from len span k q is h =
    let e : record { key = key; from = from; len = len } ≡ span =
    ap (λ o. option_map_or (λ (x : Span). x) o span) is in
    let P : Span → Type 0 = λ x. HoldsByte x k q in
    let b : HoldsByte (record { key = key; from = from; len = len }) k q = subst P (sym e) h in
    record { key_is = ap Some b.same_key; above = b.from; below = b.below }

-- if byte q of key k is in the unserved span of a CPU's batch, then it is in the batch (`InBatch`)
pub fill_byte : (fills : ℕ → Option Fill) (width : ℕ) (span : Span) (k : KeyName) (q : ℕ) →
    fill_rest width (fills width) ≡ Some span → HoldsByte span k q → (b : InBatch fills k q) × (b.width ≡ width)
fill_byte fills width span k q is h = go (fills width) refl is
  where
    go : (o : Option Fill) → fills width ≡ o → fill_rest width o ≡ Some span →
        (b : InBatch fills k q) × (b.width ≡ width)
    go None at is = cc
    go (Some fill) at is =
        let m = named_byte fill.key (32 + width * fill.count) (96 - width * fill.count) span k q is h in
        (record { width = width; fill = fill; is = at; key_is = m.key_is; unserved = m.above }, refl)

module _ (lists : Lists) (lanes : ForwardLawful lists) (states : LawfulStates lists) where
  -- no name belongs to a CPU and a vgetrandom state: a state takes only reads of 32 bytes, and a CPU uses call keys
  -- only for longer reads
  cpu_state_apart : (c caller state : ℕ) (k : KeyName) → Own lists (cpu_key c) k →
      Own lists (state_key caller state) k → ⊥
  cpu_state_apart c caller state k a (inl v) =
      let P : KeyName → Type 0 = λ x. Own lists (cpu_key c) x in subst P (sym v.is) a
  cpu_state_apart c caller state k a (inr t) =
      let P : KeyName → Type 0 = λ x. Own lists (cpu_key c) x in
      let l : (t.cpu ≡ c) × (0 ≤ t.cpu_place) × IsLong (taken_at (cpu_list lists c) t.cpu_place) =
      subst P (sym t.is) a in
      let read : taken_at (cpu_list lists t.cpu) t.cpu_place ≡ Some (User 32) =
      taken_read (cpu_list lists) caller state state_start (state_list lists caller state) t.at t.cpu t.cpu_place
      (states.states caller state).comes t.taken in
      let here : taken_at (cpu_list lists c) t.cpu_place ≡ Some (User 32) =
      ap (λ x. taken_at (cpu_list lists x) t.cpu_place) (sym l.0) ∙ read in
      let Q : Option Taken → Type 0 = λ o. IsLong o in
      let lt : 32 < 32 = subst Q here l.2 in omega arith

  states_apart : (caller state caller' state' : ℕ) (k : KeyName) → Own lists (state_key caller state) k →
      Own lists (state_key caller' state') k →
      state_key caller state ≡ state_key caller' state'
  states_apart caller state caller' state' k (inl v) (inl w) =
      let e : Vdso caller state v.number ≡ Vdso caller' state' w.number = v.is ∙ sym w.is in
      let c : caller ≡ caller' = cc in let s : state ≡ state' = cc in
      ap (λ x. state_key x state) c ∙ ap (λ x. state_key caller' x) s
  states_apart caller state caller' state' k (inl v) (inr t) = let e = v.is ∙ sym t.is in cc
  states_apart caller state caller' state' k (inr t) (inl v) = let e = v.is ∙ sym t.is in cc
  states_apart caller state caller' state' k (inr t) (inr u) =
      let e : Call (CpuLane t.cpu) t.cpu_place ≡ Call (CpuLane u.cpu) u.cpu_place = t.is ∙ sym u.is in
      let c : t.cpu ≡ u.cpu = cc in let p : t.cpu_place ≡ u.cpu_place = cc in
      let a : StatePlace = record { caller = caller; state = state; place = t.at } in
      let b : StatePlace = record { caller = caller'; state = state'; place = u.at } in
      let taken : rekey_in lists b ≡ Some (t.cpu, t.cpu_place) =
      u.taken ∙ sym (ap (λ x. Some (x, t.cpu_place)) c ∙ ap (λ x. Some (u.cpu, x)) p) in
      let same : a ≡ b = states.one_taker a b (t.cpu, t.cpu_place) t.taken taken in
      ap (λ (x : StatePlace). state_key x.caller x.state) same

  -- no name belongs to two holders
  pub own_once : (a b : KeyHolder) (k : KeyName) → Own lists a k → Own lists b k → a ≡ b
  own_once base_key base_key k a b = refl
  own_once base_key (cpu_key d) k a b = absurd (base_cpu_apart lists d k a b)
  own_once base_key (state_key caller state) k a b = absurd (base_state_apart lists caller state k a b)
  own_once (cpu_key c) base_key k a b = absurd (base_cpu_apart lists c k b a)
  own_once (cpu_key c) (cpu_key d) k a b = ap cpu_key (cpus_apart lists c d k a b)
  own_once (cpu_key c) (state_key caller state) k a b = absurd (cpu_state_apart c caller state k a b)
  own_once (state_key caller state) base_key k a b = absurd (base_state_apart lists caller state k b a)
  own_once (state_key caller state) (cpu_key d) k a b = absurd (cpu_state_apart d caller state k b a)
  own_once (state_key caller state) (state_key caller' state') k a b = states_apart caller state caller' state' k a b

  base_walk : base_side.BaseWalk lists.pool lists.base
  base_walk = base_side.base_walk lists.pool lists.base lanes.base

  cpu_walk : (c : ℕ) → cpu_side.CpuWalk lists.base c (is_rekeyed lists c) (cpu_list lists c)
  cpu_walk c = cpu_side.cpu_walk lists.base c (is_rekeyed lists c) (cpu_list lists c) (lanes.cpus c)

  state_walk : (caller state : ℕ) → state_side.StateWalk (cpu_list lists) caller state (state_list lists caller state)
  state_walk caller state = state_side.state_walk (cpu_list lists) caller state (state_list lists caller state)
      (λ i j read p q. let a : StatePlace = record { caller = caller; state = state; place = i } in
      let b : StatePlace = record { caller = caller; state = state; place = j } in
      ap (λ (x : StatePlace). x.place) (states.one_taker a b read p q))
      (states.states caller state)

  -- each holder uses no byte twice, and uses only keys whose names are its own
  pub own_uses : (h : KeyHolder) → Part (Own lists h) (uses_of lists h)
  own_uses base_key = record {
    disjoint = base_walk.disjoint;
    within = λ k q h. elim (base_walk.within k q h) [ inl e ↦ cc | inr l ↦ l ];
  }
  own_uses (cpu_key c) = record {
    disjoint = (cpu_walk c).disjoint;
    within = λ k q h. elim ((cpu_walk c).within k q h)
        [ inl e ↦ cc | inr (inl b) ↦ (let e = b.is in cc) | inr (inr l) ↦ l ];
  }
  own_uses (state_key caller state) = record {
    disjoint = (state_walk caller state).disjoint;
    within = λ k q h. elim ((state_walk caller state).within k q h)
        [ inl e ↦ (let p = e.0 in cc) | inr (inl b) ↦ (let p = b.key_is in cc) | inr (inr l) ↦ l ];
  }

  abbrev CallerOwn : ℕ → KeyName → Type 0
  CallerOwn caller = OwnFrom (λ state. Own lists (state_key caller state)) 0

  cpus_part : Part (OwnFrom (λ c. Own lists (cpu_key c)) 0) (uses_below (length lists.cpus) (cpu_uses lists))
  cpus_part = parts_below (λ c. Own lists (cpu_key c)) (cpu_uses lists) (cpus_apart lists)
      (λ c. own_uses (cpu_key c)) (length lists.cpus)

  -- `caller_of` and `state_of`: the caller and the number of a vgetrandom state that holds a key; 0 for other holders
  abbrev caller_of : KeyHolder → ℕ
  caller_of base_key = 0
  caller_of (cpu_key c) = 0
  caller_of (state_key caller state) = caller

  abbrev state_of : KeyHolder → ℕ
  state_of base_key = 0
  state_of (cpu_key c) = 0
  state_of (state_key caller state) = state

  caller_part : (caller : ℕ) → Part (CallerOwn caller) (caller_uses lists caller)
  caller_part caller = parts_below (λ state. Own lists (state_key caller state)) (state_uses lists caller)
      (λ m n k a b. ap state_of (states_apart caller m caller n k a b)) (λ state. own_uses (state_key caller state))
      (length (list_at lists.callers caller))

  callers_part : Part (OwnFrom CallerOwn 0) (uses_below (length lists.callers) (caller_uses lists))
  callers_part = parts_below CallerOwn (caller_uses lists)
      (λ m n k a b. ap caller_of (states_apart m a.number n b.number k a.own b.own)) caller_part (length lists.callers)

  lanes_disjoint : Disjoint (base_uses lists ++ uses_below (length lists.cpus) (cpu_uses lists))
  lanes_disjoint = Disjoint-append (base_uses lists) (uses_below (length lists.cpus) (cpu_uses lists))
      (own_uses base_key).disjoint cpus_part.disjoint
      (λ k q a b. let m = cpus_part.within k q b in
      base_cpu_apart lists m.number k ((own_uses base_key).within k q a) m.own)

  all_disjoint : IsDisjoint lists
  all_disjoint = Disjoint-append (base_uses lists ++ uses_below (length lists.cpus) (cpu_uses lists))
      (uses_below (length lists.callers) (caller_uses lists))
      lanes_disjoint callers_part.disjoint
      (λ k q a b. let m = callers_part.within k q b in
      elim (IsUsed-append_cases (base_uses lists) (uses_below (length lists.cpus) (cpu_uses lists)) k q a) [
        | inl x ↦ base_state_apart lists m.number (m.own).number k ((own_uses base_key).within k q x) (m.own).own
        | inr y ↦ (let n = cpus_part.within k q y in
            cpu_state_apart n.number m.number (m.own).number k n.own (m.own).own)
      ])

  -- the names of a holder's live key and of its replaced keys belong to the holder, and no replaced key is live
  record HeldOk (h : KeyHolder) : Type 0 where
    live : (k : KeyName) → live_key lists h ≡ Some k → Own lists h k
    replaced : (k : KeyName) → WasReplaced lists h k → Own lists h k
    gone : (k : KeyName) → WasReplaced lists h k → live_key lists h ≡ Some k → ⊥

  held_ok : (h : KeyHolder) → HeldOk h
  held_ok base_key = record {
    live = λ k e. elim (base_walk.held_before k (inl e)) [ inl e' ↦ cc | inr l ↦ l ];
    replaced = λ k r. elim (base_walk.replaced k r) [ inl e' ↦ cc | inr l ↦ l ];
    gone = λ k r e. base_walk.gone k r (inl e);
  }
  held_ok (cpu_key c) = record {
    live = λ k e. elim ((cpu_walk c).held_before k (inl e)) [ inl e' ↦ cc | inr l ↦ l ];
    replaced = λ k r. elim ((cpu_walk c).replaced k r) [ inl e' ↦ cc | inr l ↦ l ];
    gone = λ k r e. (cpu_walk c).gone k r (inl e);
  }
  held_ok (state_key caller state) = record {
    live = λ k e. elim ((state_walk caller state).held_before k (inl e)) [ inl e' ↦ cc | inr l ↦ l ];
    replaced = λ k r. elim ((state_walk caller state).replaced k r) [ inl e' ↦ cc | inr l ↦ l ];
    gone = λ k r e. (state_walk caller state).gone k r (inl e);
  }

  none_replaced : (a b : KeyHolder) (k : KeyName) → live_key lists a ≡ Some k → WasReplaced lists b k → ⊥
  none_replaced a b k live replaced =
      let same : a ≡ b = own_once a b k ((held_ok a).live k live) ((held_ok b).replaced k replaced) in
      let P : KeyHolder → Type 0 = λ h. live_key lists h ≡ Some k in (held_ok b).gone k replaced (subst P same live)

  -- a byte in the live span of a state's batch is in the batch
  state_byte : (caller state : ℕ) (s : NamedState) (span : Span) (k : KeyName) (q : ℕ) → state_rest s ≡ Some span →
      HoldsByte span k q →
      state_side.InBatch caller state (rekey_at (state_list lists caller state)) s k q
  state_byte caller state s span k q is h =
      let m = named_byte s.batch_key (64 * s.batch_from + s.pos) (96 - s.pos) span k q is h in
      record { key_is = m.key_is; from = m.above; below = (let a = m.above in let b = m.below in omega arith) }

  -- if a byte is in the rest of a batch, its key's name belongs to the batch's holder, and the holder did not use the
  -- byte
  record RestOk (a : BatchHolder) (k : KeyName) (q : ℕ) : Type 0 where
    own : Own lists (owner a) k
    unused : IsUsed (uses_of lists (owner a)) k q → ⊥

  rest_ok : (a : BatchHolder) (span : Span) (k : KeyName) (q : ℕ) → live_rest lists a ≡ Some span →
      HoldsByte span k q → RestOk a k q
  rest_ok (cpu_batch c width) span k q is h =
      let b = fill_byte (cpu_end lists c).fills width span k q is h in
      record {
        own = elim ((cpu_walk c).before k q (inr (inl b.0)))
            [ inl e ↦ cc | inr (inl b') ↦ (let e = b'.is in cc) | inr (inr l) ↦ l ];
        unused = λ u. (cpu_walk c).apart k q u (inr (inl b.0));
      }
  rest_ok (state_batch caller state) span k q is h =
      let b = state_byte caller state (state_end lists caller state) span k q is h in
      record {
        own = elim ((state_walk caller state).before k q (inr (inl b)))
            [ inl e ↦ (let p = e.0 in cc) | inr (inl b') ↦ (let p = b'.key_is in cc) | inr (inr l) ↦ l ];
        unused = λ u. (state_walk caller state).apart k q u (inr (inl b));
      }

  rest_unused : (a : BatchHolder) (span : Span) (k : KeyName) (q : ℕ) → live_rest lists a ≡ Some span →
      HoldsByte span k q →
      IsUsed (uses lists) k q → ⊥
  rest_unused a span k q is h used =
      let ok : RestOk a k q = rest_ok a span k q is h in
      let by = used_by lists k q used in
      let same : by.0 ≡ owner a = own_once by.0 (owner a) k ((own_uses by.0).within k q by.1) ok.own in
      let P : KeyHolder → Type 0 = λ x. IsUsed (uses_of lists x) k q in ok.unused (subst P same by.1)

  same_batch : (a b : BatchHolder) (x y : Span) (k : KeyName) (q : ℕ) → owner a ≡ owner b →
      live_rest lists a ≡ Some x → live_rest lists b ≡ Some y →
      HoldsByte x k q → HoldsByte y k q → a ≡ b
  same_batch (cpu_batch c v) (cpu_batch d w) x y k q same is at h g =
      let e : c ≡ d = cc in
      let P : ℕ → Type 0 = λ i. live_rest lists (cpu_batch i v) ≡ Some x in
      let m = fill_byte (cpu_end lists d).fills v x k q (subst P e is) h in
      let n = fill_byte (cpu_end lists d).fills w y k q at g in
      let widths : (m.0).width ≡ (n.0).width = (cpu_walk d).holds.fills_apart (m.0).width (n.0).width k
      (record { fill = (m.0).fill; is = (m.0).is; key_is = (m.0).key_is })
      (record { fill = (n.0).fill; is = (n.0).is; key_is = (n.0).key_is }) in
      ap (λ i. cpu_batch i v) e ∙ ap (cpu_batch d) (sym m.1 ∙ widths ∙ n.1)
  same_batch (cpu_batch c v) (state_batch caller state) x y k q same is at h g = cc
  same_batch (state_batch caller state) (cpu_batch c v) x y k q same is at h g = cc
  same_batch (state_batch caller state) (state_batch caller' state') x y k q same is at h g =
      let c : caller ≡ caller' = cc in let s : state ≡ state' = cc in
      ap (λ i. state_batch i state) c ∙ ap (state_batch caller') s

  rests_apart : (a b : BatchHolder) (x y : Span) (k : KeyName) (q : ℕ) → live_rest lists a ≡ Some x →
      live_rest lists b ≡ Some y →
      HoldsByte x k q → HoldsByte y k q → a ≡ b
  rests_apart a b x y k q is at h g =
      same_batch a b x y k q (own_once (owner a) (owner b) k (rest_ok a x k q is h).own (rest_ok b y k q at g).own)
      is at h g

  cpu_bytes_ok : (c width : ℕ) →
      BatchOk width ((cpu_end lists c).fills width) (replayed_batch lists (cpu_batch c width))
  cpu_bytes_ok c width = cpu_batches_ok lists c width cpu_bytes_start (cpu_list lists c) (lanes.cpus c)
      (record { served = refl; dead = λ e. refl })

  served_zero : (a : BatchHolder) →
      take (served_len lists a) (replayed_batch lists a) ≡ replicate (served_len lists a) 0
  served_zero (cpu_batch c width) = (cpu_bytes_ok c width).served
  served_zero (state_batch caller state) =
      state_batches_ok lists (cpu_list lists) caller state state_start state_bytes_start (state_list lists caller state)
      (states.states caller state).comes (λ any. refl) (states.states caller state).ends

  all_erased : IsErased lists (replayed_batch lists)
  all_erased = record {
    none_replaced = none_replaced;
    keys_apart = λ a b k p q. own_once a b k ((held_ok a).live k p) ((held_ok b).live k q);
    rest_unused = rest_unused;
    rests_apart = rests_apart;
    served_zero = served_zero;
    dead_zero = λ c width none. (cpu_bytes_ok c width).dead none;
  }

pub lawful_is_disjoint : LawfulIsDisjoint
lawful_is_disjoint lists lawful = all_disjoint lists lawful.lanes.forward lawful.states

pub lawful_is_erased : LawfulIsErased
lawful_is_erased lists lawful = all_erased lists lawful.lanes.forward lawful.states

pub half_finished_is_disjoint : HalfFinishedIsDisjoint
half_finished_is_disjoint lists lawful = all_disjoint lists lawful.lanes.forward lawful.states

pub half_finished_is_erased : HalfFinishedIsErased
half_finished_is_erased lists lawful = all_erased lists lawful.lanes.forward lawful.states
