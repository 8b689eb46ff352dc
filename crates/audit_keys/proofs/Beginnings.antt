-- If each list of a book is cut to a beginning, no byte of a key or rest that is held after these beginnings was used
-- in the beginnings. A rest is the bytes of a batch that were not served.
use Rattle.std.proofs.Common.{◌≡◌, ℕ, ◌+◌, ◌-◌, ◌*◌, ◌++◌, List, [], ◌∷◌, length, Option, Some, None, inl, inr, refl, sym, subst, ap, ◌∙◌, arith}
use Rattle.std.specs.Prelude.{Bool, true, false, slice_get, option_and_then}
use Rattle.std.specs.List.{fold}
use Rattle.std.proofs.Math.Seq.{take-append_seam}
use Rattle.key_names.specs.declared.names.LaneId.TheVariants.{Pool as PoolLane, Base as BaseLane, Cpu as CpuLane}
use Rattle.key_names.specs.declared.names.KeyName.{KeyName}
use Rattle.key_names.specs.declared.names.KeyName.TheVariants.{Root, Base, Cpu, Call, Vdso}
use Rattle.key_names.specs.declared.names.Span.{Span}
use Rattle.key_names.specs.declared.entries.Taken.{Taken}
use Rattle.key_names.specs.declared.entries.BaseEntry.{BaseEntry}
use Rattle.key_names.specs.declared.entries.CpuEntry.{CpuEntry}
use Rattle.key_names.specs.declared.entries.CpuEntry.TheVariants.{Read, Int, Irq, Dump, Prepare, Online}
use Rattle.key_names.specs.Lanes.LawfulList.{LawfulFrom}
use Rattle.key_names.specs.Lanes.BaseList.{BaseMayCome, base_step, base_start}
use Rattle.key_names.specs.Lanes.CpuList.{CpuState, CpuMayCome, cpu_step, cpu_start, cpu_after, cpu_generation_after, taken_of, taken_at}
use Rattle.key_names.specs.Lanes.StateList.{NamedState, Expected, StateMayCome, state_step, state_start, rekey_of, rekey_at}
use Rattle.key_names.specs.Lanes.Book.{Lists, cpu_list, state_list, ForwardLawful, LawfulStates, StatePlace}
use Rattle.key_names.specs.Keys.LiveMaterial.{KeyHolder, base_key, cpu_key, state_key, BatchHolder, cpu_batch, state_batch, live_key, live_rest, fill_rest, state_end}
use Rattle.key_names.specs.Keys.Uses.{Use, HoldsByte, IsUsed, uses_from, cpu_uses_at, base_uses_at, cpu_uses, uses, is_rekeyed}
use Rattle.key_names.proofs.Lists.Growing.{lawful_take, named_stays}
use Rattle.key_names.proofs.Uses.UseLists.{IsUsed-append_cases, used_first, used_second, IsLong}
use Rattle.key_names.proofs.Uses.BatchFills.{InBatch}
use Rattle.key_names.proofs.Uses.BookUses.{Own, uses_of, used_by, owner, named_byte, fill_byte, own_once, own_uses}
use Rattle.key_names.proofs.Uses.BaseUses as base_side
use Rattle.key_names.proofs.Uses.CpuNames as cpu_names
use Rattle.key_names.proofs.Uses.CpuUses as cpu_side
use Rattle.key_names.proofs.Uses.StateUses as state_side
use Rattle.audit_keys.specs.HeldUnused.{HoldsUnused}
use Rattle.audit_keys.specs.Moments.{BeginsWith, AreBeginnings, BeginningsHoldUnused}

-- if the list `whole` is lawful, so is its beginning `part`
lawful_front : {S E : Type 0} (May : S → E → Type 0) (step : S → E → S) (s : S) (whole part : List E) →
    BeginsWith whole part → LawfulFrom May step s whole → LawfulFrom May step s part
lawful_front {S} {E} May step s whole part begins lawful =
    let P : List E → Type 0 = λ es. LawfulFrom May step s es in
    subst P (take-append_seam part begins.0)
    (lawful_take May step s (part ++ begins.0) (length part) (subst P begins.1 lawful))

-- if `of` gives the name `b` for the entry at place i of a beginning `part`, it gives `b` for place i of `whole` too
named_front : {A B : Type 0} (of : A → Option B) (whole part : List A) (i : ℕ) (b : B) → BeginsWith whole part →
    option_and_then of (slice_get part i) ≡ Some b → option_and_then of (slice_get whole i) ≡ Some b
named_front of whole part i b begins is =
    ap (λ es. option_and_then of (slice_get es i)) begins.1 ∙ named_stays of part begins.0 i b is

-- each use of byte q of `k` in the beginning `es` of a list is a use in the whole list
used_front : {S E : Type 0} (uses_at : S → E → List Use) (step : S → E → S) (s : S) (es fs : List E) (k : KeyName)
    (q : ℕ) → IsUsed (uses_from uses_at step s es) k q → IsUsed (uses_from uses_at step s (es ++ fs)) k q
used_front uses_at step s [] fs k q h = absurd h
used_front uses_at step s (e ∷ es) fs k q h =
    elim (IsUsed-append_cases (uses_at s e) (uses_from uses_at step (step s e) es) k q h) [
      | inl a ↦ used_first (uses_at s e) (uses_from uses_at step (step s e) (es ++ fs)) k q a
      | inr b ↦ used_second (uses_at s e) (uses_from uses_at step (step s e) (es ++ fs)) k q
          (used_front uses_at step (step s e) es fs k q b)
    ]

-- the names and uses of a CPU do not depend on the base's list; that list gives the CPU only generations
module _ (base other : List BaseEntry) (c : ℕ) where
  same_names : (g : ℕ) (s : CpuState) (es : List CpuEntry) →
      fold (cpu_step base c) (record s { generation = g }) es
      ≡ record (fold (cpu_step other c) s es) {
        generation = (fold (cpu_step base c) (record s { generation = g }) es).generation;
      }
  same_names g s [] = refl
  same_names g s (e ∷ es) = same_names (cpu_generation_after base e g) (cpu_step other c s e) es

  same_uses_at : (rekeys : ℕ → Bool) (g : ℕ) (s : CpuState) (e : CpuEntry) →
      cpu_uses_at c rekeys (record s { generation = g }) e ≡ cpu_uses_at c rekeys s e
  same_uses_at rekeys g s (Read look refill taken) = refl
  same_uses_at rekeys g s (Int look refill width true) = refl
  same_uses_at rekeys g s (Int look refill width false) = refl
  same_uses_at rekeys g s (Irq v1 v2 now) = refl
  same_uses_at rekeys g s (Dump now) = refl
  same_uses_at rekeys g s Prepare = refl
  same_uses_at rekeys g s Online = refl

  same_uses : (rekeys : ℕ → Bool) (g : ℕ) (s : CpuState) (es : List CpuEntry) →
      uses_from (cpu_uses_at c rekeys) (cpu_step base c) (record s { generation = g }) es
      ≡ uses_from (cpu_uses_at c rekeys) (cpu_step other c) s es
  same_uses rekeys g s [] = refl
  same_uses rekeys g s (e ∷ es) =
      ap (λ us. us ++ uses_from (cpu_uses_at c rekeys) (cpu_step base c)
      (cpu_step base c (record s { generation = g }) e) es)
      (same_uses_at rekeys g s e)
      ∙ ap (λ us. cpu_uses_at c rekeys s e ++ us)
      (same_uses rekeys (cpu_generation_after base e g) (cpu_step other c s e) es)

module _ (whole part : Lists) (lanes : ForwardLawful whole) (states : LawfulStates whole)
    (begins : AreBeginnings whole part) where
  base_walk : base_side.BaseWalk whole.pool part.base
  base_walk = base_side.base_walk whole.pool part.base
      (lawful_front (BaseMayCome whole.pool) base_step base_start whole.base part.base begins.base lanes.base)

  cpu_walk : (c : ℕ) → cpu_side.CpuWalk whole.base c (is_rekeyed part c) (cpu_list part c)
  cpu_walk c = cpu_side.cpu_walk whole.base c (is_rekeyed part c) (cpu_list part c)
      (lawful_front (CpuMayCome whole.base c) (cpu_step whole.base c) cpu_start (cpu_list whole c) (cpu_list part c)
      (begins.cpus c) (lanes.cpus c))

  rekey_front : (caller state i : ℕ) (read : ℕ × ℕ) → rekey_at (state_list part caller state) i ≡ Some read →
      rekey_at (state_list whole caller state) i ≡ Some read
  rekey_front caller state i read is =
      named_front rekey_of (state_list whole caller state) (state_list part caller state) i read
      (begins.states caller state) is

  state_walk : (caller state : ℕ) → state_side.StateWalk (cpu_list whole) caller state (state_list part caller state)
  state_walk caller state = state_side.state_walk (cpu_list whole) caller state (state_list part caller state)
      (λ i j read p q. let a : StatePlace = record { caller = caller; state = state; place = i } in
      let b : StatePlace = record { caller = caller; state = state; place = j } in
      ap (λ (x : StatePlace). x.place)
      (states.one_taker a b read (rekey_front caller state i read p) (rekey_front caller state j read q)))
      (record {
        comes = lawful_front (StateMayCome (cpu_list whole)) (state_step caller state) state_start
            (state_list whole caller state) (state_list part caller state) (begins.states caller state)
            (states.states caller state).comes;
        ends = begins.ends caller state;
      })

  -- each key that the base has held is one of the base's own keys
  base_own : (place roots : ℕ) (k : KeyName) → base_side.IsOld place roots k → Own whole base_key k
  base_own place roots (Root r) old = omega arith
  base_own place roots (Base i) old = omega arith
  base_own place roots (Cpu c i) old = old
  base_own place roots (Call lane i) old = absurd old
  base_own place roots (Vdso caller state n) old = old

  long_front : (c i : ℕ) → IsLong (taken_at (cpu_list part c) i) → IsLong (taken_at (cpu_list whole c) i)
  long_front c i long = go (taken_at (cpu_list part c) i) refl long
    where
      go : (o : Option Taken) → taken_at (cpu_list part c) i ≡ o → IsLong o → IsLong (taken_at (cpu_list whole c) i)
      go None is long = absurd long
      go (Some taken) is long =
          let P : Option Taken → Type 0 = λ o. IsLong o in
          subst P (sym (named_front taken_of (cpu_list whole c) (cpu_list part c) i taken (begins.cpus c) is)) long

  -- if the beginning of a CPU's list gives a key a name, this is the name of one of the CPU's own keys
  cpu_own : (c : ℕ) (k : KeyName) → cpu_names.IsLater whole.base c (taken_at (cpu_list part c)) 0 k →
      Own whole (cpu_key c) k
  cpu_own c (Root r) later = later
  cpu_own c (Base i) later = later
  cpu_own c (Cpu d i) later = later
  cpu_own c (Call PoolLane i) later = later
  cpu_own c (Call BaseLane i) later = (later.0, record { is = (later.1).is }, later.2)
  cpu_own c (Call (CpuLane d) i) later = (later.0, later.1, long_front c i later.2)
  cpu_own c (Vdso caller state n) later = later

  -- if the beginning of a state's list gives a key a name, this is the name of one of the state's own keys
  state_own : (caller state : ℕ) (k : KeyName) →
      state_side.IsLater caller state (rekey_at (state_list part caller state)) 0 0 k →
      Own whole (state_key caller state) k
  state_own caller state k (inl v) = inl (record { number = v.number; above = v.above; is = v.is })
  state_own caller state k (inr t) = inr (record {
    at = t.at;
    above = t.above;
    cpu = t.cpu;
    cpu_place = t.cpu_place;
    taken = rekey_front caller state t.at (t.cpu, t.cpu_place) t.taken;
    is = t.is;
  })

  -- if CPU c used byte q of `k` in `part`, a replay of its list in `part` over the base's list in `whole` has the same
  -- use
  walk_used : (c : ℕ) (k : KeyName) (q : ℕ) → IsUsed (cpu_uses part c) k q →
      IsUsed (uses_from (cpu_uses_at c (is_rekeyed part c)) (cpu_step whole.base c) cpu_start (cpu_list part c)) k q
  walk_used c k q used =
      let P : List Use → Type 0 = λ us. IsUsed us k q in
      subst P (same_uses part.base whole.base c (is_rekeyed part c) 0 cpu_start (cpu_list part c)) used

  -- each key that a holder uses is one of this holder's own keys
  own_used : (h : KeyHolder) (k : KeyName) (q : ℕ) → IsUsed (uses_of part h) k q → Own whole h k
  own_used base_key k q used =
      let P : List BaseEntry → Type 0 = λ es. IsUsed (uses_from base_uses_at base_step base_start es) k q in
      (own_uses whole lanes states base_key).within k q (subst P (sym (begins.base).1)
      (used_front base_uses_at base_step base_start part.base (begins.base).0 k q used))
  own_used (cpu_key c) k q used = elim ((cpu_walk c).within k q (walk_used c k q used))
      [ inl e ↦ cc | inr (inl b) ↦ (let e = b.is in cc) | inr (inr l) ↦ cpu_own c k l ]
  own_used (state_key caller state) k q used = elim ((state_walk caller state).within k q used) [
    | inl e ↦ (let p = e.0 in cc)
    | inr (inl b) ↦ (let p = b.key_is in cc)
    | inr (inr l) ↦ state_own caller state k l
  ]

  -- `k` is one of the own keys of holder `h`, and `h` did not use byte q of `k`
  record Unused (h : KeyHolder) (k : KeyName) (q : ℕ) : Type 0 where
    own : Own whole h k
    unused : IsUsed (uses_of part h) k q → ⊥

  held : (h : KeyHolder) (k : KeyName) (q : ℕ) → live_key part h ≡ Some k → Unused h k q
  held base_key k q is = record {
    own = base_own (fold base_step base_start part.base).place (fold base_step base_start part.base).roots k
        (base_walk.holds k is);
    unused = λ used. base_walk.apart k q used (inl is);
  }
  held (cpu_key c) k q is =
      let same = same_names part.base whole.base c 0 cpu_start (cpu_list part c) in
      let live : (cpu_after whole.base c (cpu_list part c)).key ≡ Some k =
      sym (ap (λ (s : CpuState). s.key) same) ∙ is in
      record {
        own = elim ((cpu_walk c).held_before k (inl live)) [ inl e ↦ cc | inr l ↦ cpu_own c k l ];
        unused = λ used. (cpu_walk c).apart k q (walk_used c k q used) (inl live);
      }
  held (state_key caller state) k q is = record {
    own = elim ((state_walk caller state).held_before k (inl is)) [ inl e ↦ cc | inr l ↦ state_own caller state k l ];
    unused = λ used. (state_walk caller state).apart k q used (inl (is, any));
  }
    where
      any : state_side.IsUnused (state_end part caller state).expected q
      any = subst (λ (x : Expected). state_side.IsUnused x q) (sym (begins.ends caller state)) tt

  rest : (a : BatchHolder) (span : Span) (k : KeyName) (q : ℕ) → live_rest part a ≡ Some span → HoldsByte span k q →
      Unused (owner a) k q
  rest (cpu_batch c width) span k q is h =
      let same = same_names part.base whole.base c 0 cpu_start (cpu_list part c) in
      let s : CpuState = cpu_after whole.base c (cpu_list part c) in
      let live : fill_rest width (s.fills width) ≡ Some span =
      sym (ap (λ (x : CpuState). fill_rest width (x.fills width)) same) ∙ is in
      let b : InBatch s.fills k q = (fill_byte s.fills width span k q live h).0 in
      record {
        own = elim ((cpu_walk c).before k q (inr (inl b)))
            [ inl e ↦ cc | inr (inl b') ↦ (let e = b'.is in cc) | inr (inr l) ↦ cpu_own c k l ];
        unused = λ used. (cpu_walk c).apart k q (walk_used c k q used) (inr (inl b));
      }
  rest (state_batch caller state) span k q is h =
      let s : NamedState = state_end part caller state in
      let m = named_byte s.batch_key (64 * s.batch_from + s.pos) (96 - s.pos) span k q is h in
      let b : state_side.InBatch caller state (rekey_at (state_list part caller state)) s k q = record {
        key_is = m.key_is;
        from = m.above;
        below = (let low = m.above in let high = m.below in omega arith);
      } in
      record {
        own = elim ((state_walk caller state).before k q (inr (inl b))) [
          | inl e ↦ (let p = e.0 in cc)
          | inr (inl b') ↦ (let p = b'.key_is in cc)
          | inr (inr l) ↦ state_own caller state k l
        ];
        unused = λ used. (state_walk caller state).apart k q used (inr (inl b));
      }

  -- if the holder `h` did not use byte q of its own key `k`, no holder used it
  apart : (h : KeyHolder) (k : KeyName) (q : ℕ) → Unused h k q → IsUsed (uses part) k q → ⊥
  apart h k q ok used =
      let by = used_by part k q used in
      let same : by.0 ≡ h = own_once whole lanes states by.0 h k (own_used by.0 k q by.1) ok.own in
      let P : KeyHolder → Type 0 = λ x. IsUsed (uses_of part x) k q in ok.unused (subst P same by.1)

  pub hold_unused : HoldsUnused part
  hold_unused = record {
    keys = λ a k q is used. apart a k q (held a k q is) used;
    rests = λ a span k q is h used. apart (owner a) k q (rest a span k q is h) used;
  }

pub beginnings_hold_unused : BeginningsHoldUnused
beginnings_hold_unused whole part lawful begins = hold_unused whole part lawful.lanes.forward lawful.states begins
