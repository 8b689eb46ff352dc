-- In a lawful list of a vgetrandom state, no byte is used twice, and no replaced key is live at the end.
use Rattle.std.proofs.Common.{◌≡◌, ℕ, suc, ◌+◌, ◌*◌, ◌≤◌, ◌<◌, List, ◌⊎◌, inl, inr, refl, sym, subst, ap, ◌∙◌, arith, Some, None, Option}
use Rattle.std.specs.Prelude.{option_and_then}
use Rattle.key_names.specs.declared.names.LaneId.TheVariants.{Cpu as CpuLane}
use Rattle.key_names.specs.declared.names.KeyName.{KeyName}
use Rattle.key_names.specs.declared.names.KeyName.TheVariants.{Call, Vdso}
use Rattle.key_names.specs.declared.entries.CpuEntry.{CpuEntry}
use Rattle.key_names.specs.declared.entries.VEntry.{VEntry}
use Rattle.key_names.specs.declared.entries.VEntry.TheVariants.{Rekey, Blocks, Refill, Serve, Wipe}
use Rattle.key_names.specs.Keys.Uses.{kept, served, state_uses_at}
use Rattle.key_names.specs.Keys.LiveMaterial.{StateReplaces}
use Rattle.key_names.specs.Lanes.StateList.{Expected, anything, new_key, refill_from, NamedState, state_start, state_step, refill_key, MayStart, MayRefill, StateMayCome, LawfulStateList, rekey_of, rekey_at}
use Rattle.key_names.proofs.Uses.UseLists.{one_use, one_use_disjoint}
use Rattle.key_names.proofs.Uses.Walks.{StepFacts, Walk, walk, lawful_and_inferred}

-- byte q of the state's key is unused. If a refill from block n must come next, the bytes from 64 n on are unused.
-- Otherwise all bytes of the key are unused
abbrev pub IsUnused : Expected → ℕ → Type 0
IsUnused anything q = Unit {0}
IsUnused new_key q = Unit {0}
IsUnused (refill_from n) q = 64 * n ≤ q

may_start_unused : (x : Expected) (q : ℕ) → MayStart x → IsUnused x q
may_start_unused anything q h = tt
may_start_unused new_key q h = tt
may_start_unused (refill_from n) q h = absurd h

may_refill_unused : (x : Expected) (from q : ℕ) → MayRefill x from → 64 * from ≤ q → IsUnused x q
may_refill_unused anything from q h le = tt
may_refill_unused new_key from q h le = tt
may_refill_unused (refill_from n) from q h le = let P : ℕ → Type 0 = λ x. 64 * x ≤ q in subst P h le

-- `rekeys` gives the read that the entry at each place takes as a key
module _ (caller state : ℕ) (rekeys : ℕ → Option (ℕ × ℕ)) where
  -- k is the name of a read that an entry from `place` on takes as a key
  pub record TakenFrom (place : ℕ) (k : KeyName) : Type 0 where
    pub at : ℕ
    pub above : place ≤ at
    pub cpu : ℕ
    pub cpu_place : ℕ
    pub taken : rekeys at ≡ Some (cpu, cpu_place)
    pub is : Call (CpuLane cpu) cpu_place ≡ k

  -- `k` is the name of a key that refill number `refills` or a later refill keeps
  pub record KeptFrom (refills : ℕ) (k : KeyName) : Type 0 where
    pub number : ℕ
    pub above : refills ≤ number
    pub is : Vdso caller state number ≡ k

  -- k is the name of a key that only entries from `place` on can use; `refills` is the number of refills before
  abbrev pub IsLater : ℕ → ℕ → KeyName → Type 0
  IsLater place refills k = KeptFrom refills k ⊎ TakenFrom place k

  -- byte q of the key k is in the batch of the state s, and was not served yet
  pub record InBatch (s : NamedState) (k : KeyName) (q : ℕ) : Type 0 where
    pub key_is : s.batch_key ≡ Some k
    pub from : 64 * s.batch_from + s.pos ≤ q
    pub below : q < 64 * s.batch_from + 96

  -- entries after the state s may use byte q of the key k
  abbrev pub MayUse : NamedState → KeyName → ℕ → Type 0
  MayUse s k q = ((s.key ≡ Some k) × IsUnused s.expected q) ⊎ InBatch s k q ⊎ IsLater s.place s.refills k

  -- the vgetrandom state may have the key k after the entries that lead to s, or later
  abbrev pub MayHold : NamedState → KeyName → Type 0
  MayHold s k = (s.key ≡ Some k) ⊎ IsLater s.place s.refills k

  -- the state's key and the batch's key have different names, and IsLater holds for neither name
  pub record KeysApart (s : NamedState) : Type 0 where
    pub key : (k : KeyName) → s.key ≡ Some k → IsLater s.place s.refills k → ⊥
    pub batch : (k : KeyName) → s.batch_key ≡ Some k → IsLater s.place s.refills k → ⊥
    pub apart : (k : KeyName) → s.key ≡ Some k → s.batch_key ≡ Some k → ⊥

  later_less : (place refills refills' : ℕ) (k : KeyName) → refills ≤ refills' → IsLater (suc place) refills' k →
      IsLater place refills k
  later_less place refills refills' k le (inl v) =
      inl (record { number = v.number; above = (let a = v.above in omega arith); is = v.is })
  later_less place refills refills' k le (inr t) = inr (record {
    at = t.at;
    above = (let a = t.above in omega arith);
    cpu = t.cpu;
    cpu_place = t.cpu_place;
    taken = t.taken;
    is = t.is;
  })

  later_next : (s : NamedState) (k : KeyName) → IsLater (suc s.place) s.refills k → IsLater s.place s.refills k
  later_next s k l = later_less s.place s.refills s.refills k (omega arith) l

  -- let the entry at the next place be a rekey. IsLater holds for the name of the read that the rekey takes. Below, the
  -- same for the key that a refill keeps
  taken_here : (s : NamedState) (cpu cpu_place : ℕ) (k : KeyName) → rekeys s.place ≡ Some (cpu, cpu_place) →
      Call (CpuLane cpu) cpu_place ≡ k →
      IsLater s.place s.refills k
  taken_here s cpu cpu_place k inferred is =
      inr (record { at = s.place; above = omega arith; cpu = cpu; cpu_place = cpu_place; taken = inferred; is = is })

  kept_here : (s : NamedState) (k : KeyName) → Vdso caller state s.refills ≡ k → IsLater s.place s.refills k
  kept_here s k is = inl (record { number = s.refills; above = omega arith; is = is })

  abbrev pub MayComeInferred : (ℕ → List CpuEntry) → NamedState → VEntry → Type 0
  MayComeInferred cpu_list s e = StateMayCome cpu_list s e × (rekeys s.place ≡ rekey_of e)

  abbrev pub StateFacts : (ℕ → List CpuEntry) → NamedState → VEntry → Type 0
  StateFacts cpu_list s e =
      StepFacts (MayComeInferred cpu_list) (state_step caller state)
      state_uses_at StateReplaces KeysApart MayUse MayHold s e

  -- no two entries of the state take the same read as a key
  abbrev pub OneTaker : Type 0
  OneTaker = (a b : ℕ) (read : ℕ × ℕ) → rekeys a ≡ Some read → rekeys b ≡ Some read → a ≡ b

  taken_once : OneTaker → (place cpu cpu_place : ℕ) (k : KeyName) → rekeys place ≡ Some (cpu, cpu_place) →
      Call (CpuLane cpu) cpu_place ≡ k →
      TakenFrom (suc place) k → ⊥
  taken_once one place cpu cpu_place k inferred is t =
      let e : Call (CpuLane t.cpu) t.cpu_place ≡ Call (CpuLane cpu) cpu_place = t.is ∙ sym is in
      let c : t.cpu ≡ cpu = cc in let p : t.cpu_place ≡ cpu_place = cc in
      let r : rekeys t.at ≡ Some (cpu, cpu_place) = t.taken ∙ ap (λ x. Some (x, t.cpu_place)) c
      ∙ ap (λ x. Some (cpu, x)) p in
      let same : t.at ≡ place = one t.at place (cpu, cpu_place) r inferred in let le = t.above in omega arith

  rekey_facts : (cpu_list : ℕ → List CpuEntry) (s : NamedState) (cpu cpu_place : ℕ) → OneTaker →
      rekeys s.place ≡ Some (cpu, cpu_place) → KeysApart s → s.expected ≡ anything →
      StateFacts cpu_list s (Rekey cpu cpu_place)
  rekey_facts cpu_list s cpu cpu_place one inferred ok any = record {
    disjoint = tt;
    within = λ k q h. absurd h;
    before = λ k q h. elim h [
      | inl e ↦ inr (inr (taken_here s cpu cpu_place k inferred (let p = e.0 in cc)))
      | inr (inl b) ↦ (let p = b.key_is in cc)
      | inr (inr l) ↦ inr (inr (later_next s k l))
    ];
    apart = λ k q h later. h;
    held_before = λ k h. elim h [ inl e ↦ inr (taken_here s cpu cpu_place k inferred cc) | inr l ↦ inr (later_next s k l) ];
    replaced = λ k h. inl h;
    gone = λ k h later. elim later [
      | inl e ↦ ok.key k h (taken_here s cpu cpu_place k inferred cc)
      | inr l ↦ ok.key k h (later_next s k l)
    ];
    holds = record {
      key = λ k e later. elim later [
        | inl v ↦ (let p = v.is in cc)
        | inr t ↦ taken_once one s.place cpu cpu_place k inferred (cc) t
      ];
      batch = λ k e later. cc;
      apart = λ k e f. cc;
    };
  }

  blocks_facts : (cpu_list : ℕ → List CpuEntry) (s : NamedState) (from count : ℕ) → MayStart s.expected → KeysApart s →
      StateFacts cpu_list s (Blocks from count)
  blocks_facts cpu_list s from count may ok = record {
    disjoint = one_use_disjoint served s.key _ _;
    within = λ k q h. inl (
      (one_use served s.key (64 * from) (64 * count) k q h).key_is,
      may_start_unused s.expected
          q may,
    );
    before = λ k q h. elim h [
      | inl e ↦ inl (e.0, may_start_unused s.expected q may)
      | inr (inl b) ↦ inr (inl (record { key_is = b.key_is; from = b.from; below = b.below }))
      | inr (inr l) ↦ inr (inr (later_next s k l))
    ];
    apart = λ k q h later. let m = one_use served s.key (64 * from) (64 * count) k q h in elim later [
      | inl e ↦ (let from' = e.1 in let below = m.below in omega arith)
      | inr (inl b) ↦ ok.apart k m.key_is b.key_is
      | inr (inr l) ↦ ok.key k m.key_is (later_next s k l)
    ];
    held_before = λ k h. elim h [ inl e ↦ inl e | inr l ↦ inr (later_next s k l) ];
    replaced = λ k h. absurd h;
    gone = λ k h later. h;
    holds = record {
      key = λ k e l. ok.key k e (later_next s k l);
      batch = λ k e l. ok.batch k e (later_next s k l);
      apart = ok.apart;
    };
  }

  refill_cases : (n : ℕ) (key : Option KeyName) (k : KeyName) → refill_key caller state n key ≡ Some k →
      Vdso caller state n ≡ k
  refill_cases n None k e = cc
  refill_cases n (Some key) k e = cc

  refill_facts : (cpu_list : ℕ → List CpuEntry) (s : NamedState) (from : ℕ) → MayRefill s.expected from → KeysApart s →
      StateFacts cpu_list s (Refill from)
  refill_facts cpu_list s from may ok = record {
    disjoint = one_use_disjoint kept s.key _ _;
    within = λ k q h. let m = one_use kept s.key (64 * from + 96) 32 k q h in
        let le : 64 * from ≤ q = (let a = m.above in omega arith) in
        inl (m.key_is, may_refill_unused s.expected from q may le);
    before = λ k q h. elim h [
      | inl e ↦ inr (inr (kept_here s k (refill_cases s.refills s.key k e.0)))
      | inr (inl b) ↦ (let from' = b.from in let le : 64 * from ≤ q = omega arith in
          inl (b.key_is, may_refill_unused s.expected from q may le))
      | inr (inr l) ↦ inr (inr (following k l))
    ];
    apart = λ k q h later. let m = one_use kept s.key (64 * from + 96) 32 k q h in elim later [
      | inl e ↦ ok.key k m.key_is (kept_here s k (refill_cases s.refills s.key k e.0))
      | inr (inl b) ↦ (let from' = m.above in let below = b.below in omega arith)
      | inr (inr l) ↦ ok.key k m.key_is (following k l)
    ];
    held_before = λ k h. elim h
        [ inl e ↦ inr (kept_here s k (refill_cases s.refills s.key k e)) | inr l ↦ inr (following k l) ];
    replaced = λ k h. inl h;
    gone = λ k h later. elim later [
      | inl e ↦ ok.key k h (kept_here s k (refill_cases s.refills s.key k e))
      | inr l ↦ ok.key k h (following k l)
    ];
    holds = record {
      key = λ k e later. let p : Vdso caller state s.refills ≡ k = refill_cases s.refills s.key k e in elim later [
        | inl v ↦ (let same : v.number ≡ s.refills = (let r = v.is in cc) in let le = v.above in omega arith)
        | inr t ↦ (let r = t.is in cc)
      ];
      batch = λ k e l. ok.key k e (following k l);
      apart = λ k e f. ok.key k f (kept_here s k (refill_cases s.refills s.key k e));
    };
  }
    where
      following : (k : KeyName) → IsLater (suc s.place) (suc s.refills) k → IsLater s.place s.refills k
      following k l = later_less s.place s.refills (suc s.refills) k (omega arith) l

  serve_facts : (cpu_list : ℕ → List CpuEntry) (s : NamedState) (pos len : ℕ) → pos ≡ s.pos → pos + len ≤ 96 →
      KeysApart s →
      StateFacts cpu_list s (Serve pos len)
  serve_facts cpu_list s pos len at fits ok = record {
    disjoint = one_use_disjoint served s.batch_key _ _;
    within = λ k q h. let m = one_use served s.batch_key (64 * s.batch_from + pos) len k q h in
        let a = m.above in let b = m.below in
        inr (inl (record { key_is = m.key_is; from = omega arith; below = omega arith }));
    before = λ k q h. elim h [
      | inl e ↦ inl e
      | inr (inl b) ↦ (let from' = b.from in
          inr (inl (record { key_is = b.key_is; from = omega arith; below = b.below })))
      | inr (inr l) ↦ inr (inr (later_next s k l))
    ];
    apart = λ k q h later. let m = one_use served s.batch_key (64 * s.batch_from + pos) len k q h in elim later [
      | inl e ↦ ok.apart k e.0 m.key_is
      | inr (inl b) ↦ (let from' = b.from in let below = m.below in omega arith)
      | inr (inr l) ↦ ok.batch k m.key_is (later_next s k l)
    ];
    held_before = λ k h. elim h [ inl e ↦ inl e | inr l ↦ inr (later_next s k l) ];
    replaced = λ k h. absurd h;
    gone = λ k h later. h;
    holds = record {
      key = λ k e l. ok.key k e (later_next s k l);
      batch = λ k e l. ok.batch k e (later_next s k l);
      apart = ok.apart;
    };
  }

  wipe_facts : (cpu_list : ℕ → List CpuEntry) (s : NamedState) → KeysApart s → StateFacts cpu_list s Wipe
  wipe_facts cpu_list s ok = record {
    disjoint = tt;
    within = λ k q h. absurd h;
    before = λ k q h. elim h [
      | inl e ↦ (let p = e.0 in cc)
      | inr (inl b) ↦ (let p = b.key_is in cc)
      | inr (inr l) ↦ inr (inr (later_next s k l))
    ];
    apart = λ k q h later. h;
    held_before = λ k h. elim h [ inl e ↦ cc | inr l ↦ inr (later_next s k l) ];
    replaced = λ k h. inl h;
    gone = λ k h later. elim later [ inl e ↦ cc | inr l ↦ ok.key k h (later_next s k l) ];
    holds = record { key = λ k e later. cc; batch = λ k e later. cc; apart = λ k e f. cc };
  }

  state_facts : (cpu_list : ℕ → List CpuEntry) → OneTaker → (s : NamedState) (e : VEntry) →
      MayComeInferred cpu_list s e → KeysApart s →
      StateFacts cpu_list s e
  state_facts cpu_list one s (Rekey cpu cpu_place) may ok = rekey_facts cpu_list s cpu cpu_place one may.1 ok may.0.0
  state_facts cpu_list one s (Blocks from count) may ok = blocks_facts cpu_list s from count may.0.0 ok
  state_facts cpu_list one s (Refill from) may ok = refill_facts cpu_list s from may.0.0 ok
  state_facts cpu_list one s (Serve pos len) may ok = serve_facts cpu_list s pos len may.0.0.1 may.0.0.2 ok
  state_facts cpu_list one s Wipe may ok = wipe_facts cpu_list s ok

  keys_at_start : KeysApart state_start
  keys_at_start = record {
    key = λ k e later. (let p = e in cc);
    batch = λ k e later. (let p = e in cc);
    apart = λ k e f. (let p = e in cc);
  }

-- a walk (`Walk`) over the whole list of a state
abbrev pub StateWalk : (ℕ → List CpuEntry) → ℕ → ℕ → List VEntry → Type 0
StateWalk cpu_list caller state es =
    Walk (MayComeInferred caller state (rekey_at es) cpu_list) (state_step caller state) state_uses_at StateReplaces
    (KeysApart caller state (rekey_at es)) (MayUse caller state (rekey_at es)) (MayHold caller state (rekey_at es))
    state_start es

pub state_walk : (cpu_list : ℕ → List CpuEntry) (caller state : ℕ) (es : List VEntry) →
    OneTaker caller state (rekey_at es) →
    LawfulStateList cpu_list caller state es → StateWalk cpu_list caller state es
state_walk cpu_list caller state es one lawful =
    walk (MayComeInferred caller state (rekey_at es) cpu_list) (state_step caller state) state_uses_at StateReplaces
    (KeysApart caller state (rekey_at es)) (MayUse caller state (rekey_at es)) (MayHold caller state (rekey_at es))
    (state_facts caller state (rekey_at es) cpu_list one) state_start es
    (lawful_and_inferred (StateMayCome cpu_list) (state_step caller state) (λ s. s.place) place_next
    (rekey_at es) rekey_of state_start es
    (λ j e is. let p : 0 + j ≡ j = omega arith in ap (rekey_at es) p ∙ ap (option_and_then rekey_of) is) lawful.comes)
    (keys_at_start caller state (rekey_at es))
  where
    place_next : (s : NamedState) (e : VEntry) → (state_step caller state s e).place ≡ suc s.place
    place_next s (Rekey cpu cpu_place) = refl
    place_next s (Blocks from count) = refl
    place_next s (Refill from) = refl
    place_next s (Serve pos len) = refl
    place_next s Wipe = refl
