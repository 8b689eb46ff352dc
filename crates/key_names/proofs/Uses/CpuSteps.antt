-- Each entry of a CPU's list uses only bytes that MayUse allows before the entry and no longer allows after it
-- (`StepOk`).
use Rattle.std.proofs.Common.{◌≡◌, ℕ, suc, ◌+◌, ◌*◌, ◌≤◌, ◌<◌, Bool, true, false, List, [], ◌∷◌, ◌⊎◌, inl, inr, refl, sym, subst, ap, ◌∙◌, arith, Some, None, Option}
use Rattle.std.specs.Prelude.{◌==◌}
use Rattle.std.proofs.lemmas.Bool.{eq-eqb}
use Rattle.std.proofs.Math.Nat.{mul-le-mul_left}
use Rattle.key_names.specs.declared.names.LaneId.TheVariants.{Base as BaseLane, Cpu as CpuLane}
use Rattle.key_names.specs.declared.names.KeyName.{KeyName}
use Rattle.key_names.specs.declared.names.KeyName.TheVariants.{Cpu, Call}
use Rattle.key_names.specs.declared.entries.BaseEntry.{BaseEntry}
use Rattle.key_names.specs.declared.entries.CpuEntry.{CpuEntry}
use Rattle.key_names.specs.declared.entries.CpuEntry.TheVariants.{Read, Int, Irq, Dump, Prepare, Online}
use Rattle.key_names.specs.declared.entries.Taken.{Taken}
use Rattle.key_names.specs.Keys.Uses.{Use, kept, served, use_of, IsUsed, Disjoint, read_uses, batch_uses, cpu_uses_at}
use Rattle.key_names.specs.Kernel.Batches.{Fill, fills_after}
use Rattle.key_names.specs.Lanes.CpuList.{CpuState, RefillConforms, cpu_key_in_use, cpu_key_after, call_or, taken_of}
use Rattle.key_names.proofs.Uses.UseLists.{Disjoint-two, named_uses_cases, named_uses_disjoint, IsLong, read_disjoint, read_within}
use Rattle.key_names.proofs.Uses.BatchFills.{InBatch, Filled, in_batch, none_filled, filled_after, filled_cases, served_after, Before, before_serving, filled_before, Serves, serves, batch_disjoint, same_fill, fill_within}
use Rattle.key_names.proofs.Uses.CpuNames as names

module _ (base : List BaseEntry) (c : ℕ) (taken : ℕ → Option Taken) where
  abbrev pub MadeFor : ℕ → ℕ → Type 0
  MadeFor = names.MadeFor base c taken

  abbrev pub IsOld : ℕ → KeyName → Type 0
  IsOld = names.IsOld base c taken

  abbrev pub IsLater : ℕ → KeyName → Type 0
  IsLater = names.IsLater base c taken

  -- the lemmas of CpuNames for CPU c
  old_more : (place : ℕ) (key : KeyName) → IsOld place key → IsOld (suc place) key
  old_more = names.old_more base c taken

  later_less : (place : ℕ) (key : KeyName) → IsLater (suc place) key → IsLater place key
  later_less = names.later_less base c taken

  old_not_later : (place : ℕ) (key : KeyName) → IsOld place key → IsLater place key → ⊥
  old_not_later = names.old_not_later base c taken

  old_not_next : (place : ℕ) (key : KeyName) → IsOld place key → IsLater (suc place) key → ⊥
  old_not_next = names.old_not_next base c taken

  own_later : (place : ℕ) (k : KeyName) → Cpu c place ≡ k → IsLater place k
  own_later = names.own_later base c taken

  own_old : (place : ℕ) (k : KeyName) → Cpu c place ≡ k → IsOld (suc place) k
  own_old = names.own_old base c taken

  own_not_old : (place : ℕ) (k : KeyName) → Cpu c place ≡ k → IsOld place k → ⊥
  own_not_old = names.own_not_old base c taken

  call_later : (place b : ℕ) (k : KeyName) → MadeFor b place → Call BaseLane b ≡ k → IsLater place k
  call_later = names.call_later base c taken

  -- the key of the CPU and the keys of its fills have old names, and no two of these names are the same
  pub record KeysApart (place : ℕ) (key : Option KeyName) (fills : ℕ → Option Fill) : Type 0 where
    pub key_old : (k : KeyName) → key ≡ Some k → IsOld place k
    pub fill_old : (w : ℕ) (k : KeyName) → Filled fills w k → IsOld place k
    pub key_apart : (w : ℕ) (k : KeyName) → key ≡ Some k → Filled fills w k → ⊥
    pub fills_apart : (v w : ℕ) (k : KeyName) → Filled fills v k → Filled fills w k → v ≡ w

  -- entries from `place` on may use byte q of the key k
  abbrev pub MayUse : ℕ → Option KeyName → (ℕ → Option Fill) → KeyName → ℕ → Type 0
  MayUse place key fills k q = (key ≡ Some k) ⊎ InBatch fills k q ⊎ IsLater place k

  -- the name of `used`, the key in use at `place`, is old for the next place. It differs from the name of the key that
  -- `place` keeps and from the name of each fill's key
  pub record InUse (place : ℕ) (key used : Option KeyName) (fills : ℕ → Option Fill) : Type 0 where
    pub old : (k : KeyName) → used ≡ Some k → IsOld (suc place) k
    pub not_own : (k : KeyName) → used ≡ Some k → Cpu c place ≡ k → ⊥
    pub apart : (w : ℕ) (k : KeyName) → used ≡ Some k → Filled fills w k → ⊥
    pub may : (k : KeyName) → used ≡ Some k → (key ≡ Some k) ⊎ IsLater place k

  pub in_use : (place : ℕ) (key : Option KeyName) (fills : ℕ → Option Fill) (o : Option ℕ) →
      ((b : ℕ) → o ≡ Some b → MadeFor b place) → KeysApart place key fills →
      InUse place key (call_or o key) fills
  in_use place key fills None made ok = record {
    old = λ k h. old_more place k (ok.key_old k h);
    not_own = λ k h e. own_not_old place k e (ok.key_old k h);
    apart = ok.key_apart;
    may = λ k h. inl h;
  }
  in_use place key fills (Some b) made ok = record {
    old = λ k h. let P : KeyName → Type 0 = λ x. IsOld (suc place) x in
        let e : Call BaseLane b ≡ k = cc in subst P e (place, made b refl, omega arith);
    not_own = λ k h e. cc;
    apart = λ w k h filled. old_not_later place k (ok.fill_old w k filled) (call_later place b k (made b refl) cc);
    may = λ k h. inr (call_later place b k (made b refl) cc);
  }

  -- an entry with the uses `now` uses only bytes that MayUse allows before the entry and no longer allows after it, and
  -- preserves KeysApart
  pub record StepOk (place : ℕ) (key : Option KeyName) (fills : ℕ → Option Fill)
      (now : List Use) (key' : Option KeyName) (fills' : ℕ → Option Fill) : Type 0 where
    pub disjoint : Disjoint now
    pub within : (k : KeyName) (q : ℕ) → IsUsed now k q → MayUse place key fills k q
    pub before : (k : KeyName) (q : ℕ) → MayUse (suc place) key' fills' k q → MayUse place key fills k q
    pub apart : (k : KeyName) (q : ℕ) → IsUsed now k q → MayUse (suc place) key' fills' k q → ⊥
    pub keys : KeysApart (suc place) key' fills'

  -- StepOk holds for an entry without uses, after which the key in use is the CPU's key
  idle_step : (place : ℕ) (key used : Option KeyName) (fills : ℕ → Option Fill) →
      KeysApart place key fills → InUse place key used fills → StepOk place key fills [] used fills
  idle_step place key used fills ok u = record {
    disjoint = tt;
    within = λ k q h. absurd h;
    before = λ k q h. elim h [
      | inl e ↦ elim (u.may k e) [ inl a ↦ inl a | inr l ↦ inr (inr l) ]
      | inr (inl b) ↦ inr (inl b)
      | inr (inr l) ↦ inr (inr (later_less place k l))
    ];
    apart = λ k q h later. h;
    keys = record {
      key_old = u.old;
      fill_old = λ w k f. old_more place k (ok.fill_old w k f);
      key_apart = u.apart;
      fills_apart = ok.fills_apart;
    };
  }

  -- StepOk holds for an entry that prepares the CPU: the fills are gone, and the key stays
  prepare_step : (place : ℕ) (key : Option KeyName) (fills : ℕ → Option Fill) →
      KeysApart place key fills → StepOk place key fills [] key (λ w. None)
  prepare_step place key fills ok = record {
    disjoint = tt;
    within = λ k q h. absurd h;
    before = λ k q h. elim h [
      | inl e ↦ inl e
      | inr (inl b) ↦ absurd (none_filled b.width k (in_batch (λ w. None) k q b))
      | inr (inr l) ↦ inr (inr (later_less place k l))
    ];
    apart = λ k q h later. h;
    keys = record {
      key_old = λ k e. old_more place k (ok.key_old k e);
      fill_old = λ w k f. absurd (none_filled w k f);
      key_apart = λ w k e f. none_filled w k f;
      fills_apart = λ v w k f g. absurd (none_filled v k f);
    };
  }

  -- k is the key in use, or the key that a long read at this place serves from
  abbrev IsOfRead : ℕ → Option KeyName → KeyName → Type 0
  IsOfRead place used k = (used ≡ Some k) ⊎ ((Call (CpuLane c) place ≡ k) × IsLong (taken place))

  -- StepOk holds for an entry that erases the key in use. The next key is named by this place, and the fills stay
  erase_step : (place : ℕ) (key used : Option KeyName) (fills : ℕ → Option Fill) (now : List Use) →
      Disjoint now → ((k : KeyName) (q : ℕ) → IsUsed now k q → IsOfRead place used k) →
      KeysApart place key fills → InUse place key used fills →
      StepOk place key fills now (Some (Cpu c place)) fills
  erase_step place key used fills now disjoint within ok u = record {
    disjoint = disjoint;
    within = λ k q h. elim (within k q h) [
      | inl e ↦ elim (u.may k e) [ inl a ↦ inl a | inr l ↦ inr (inr l) ]
      | inr e ↦ inr (inr (long_later k e.0 e.1))
    ];
    before = λ k q h. elim h [
      | inl e ↦ inr (inr (own_later place k cc))
      | inr (inl b) ↦ inr (inl b)
      | inr (inr l) ↦ inr (inr (later_less place k l))
    ];
    apart = λ k q h later. elim (within k q h) [
      | inl e ↦ elim later [
        | inl own ↦ u.not_own k e cc
        | inr (inl b) ↦ u.apart b.width k e (in_batch fills k q b)
        | inr (inr l) ↦ old_not_later (suc place) k (u.old k e) l
      ]
      | inr e ↦ elim later [
        | inl own ↦ (let p = e.0 in cc)
        | inr (inl b) ↦ long_not_old k e.0 (ok.fill_old b.width k (in_batch fills k q b))
        | inr (inr l) ↦ long_not_later k e.0 l
      ]
    ];
    keys = record {
      key_old = λ k e. own_old place k cc;
      fill_old = λ w k f. old_more place k (ok.fill_old w k f);
      key_apart = λ w k e f. own_not_old place k (cc) (ok.fill_old w k f);
      fills_apart = ok.fills_apart;
    };
  }
    where
      long_later : (k : KeyName) → Call (CpuLane c) place ≡ k → IsLong (taken place) → IsLater place k
      long_later k e long = let P : KeyName → Type 0 = λ x. IsLater place x in subst P e (refl, omega arith, long)

      long_not_old : (k : KeyName) → Call (CpuLane c) place ≡ k → IsOld place k → ⊥
      long_not_old k e h = let P : KeyName → Type 0 = λ x. IsOld place x in subst P (sym e) h

      long_not_later : (k : KeyName) → Call (CpuLane c) place ≡ k → IsLater (suc place) k → ⊥
      long_not_later k e h = let P : KeyName → Type 0 = λ x. IsLater (suc place) x in
          let m : (c ≡ c) × (suc place ≤ place) × IsLong (taken place) = subst P (sym e) h in omega arith

  -- StepOk holds for an integer that fills its batch first
  fill_step : (place : ℕ) (key used : Option KeyName) (fills : ℕ → Option Fill) (now : List Use)
      (width look : ℕ) →
      Disjoint now → ((k : KeyName) (q : ℕ) → IsUsed now k q → (used ≡ Some k) × (q < 32 + width)) →
      KeysApart place key fills → InUse place key used fills →
      StepOk place key fills now (Some (Cpu c place)) (filled_after place width look used fills)
  fill_step place key used fills now width look disjoint within ok u = record {
    disjoint = disjoint;
    within = λ k q h. elim (u.may k (within k q h).0) [ inl a ↦ inl a | inr l ↦ inr (inr l) ];
    before = λ k q h. elim h [
      | inl e ↦ inr (inr (own_later place k cc))
      | inr (inl b) ↦ elim (filled_cases place width look used fills b.width b.fill b.is) [
        | inl n ↦ elim (u.may k (n.1 ∙ b.key_is)) [ inl a ↦ inl a | inr l ↦ inr (inr l) ]
        | inr o ↦ inr (inl (record {
          width = b.width;
          fill = b.fill;
          is = o;
          key_is = b.key_is;
          unserved =
              b.unserved;
        }))
      ]
      | inr (inr l) ↦ inr (inr (later_less place k l))
    ];
    apart = λ k q h later. let e = (within k q h).0 in elim later [
      | inl own ↦ u.not_own k e cc
      | inr (inl b) ↦ elim (filled_cases place width look used fills b.width b.fill b.is) [
        | inl n ↦ (let below : q < 32 + width = (within k q h).1 in
            let from : 32 + width * 1 ≤ q =
            (let P : ℕ → Type 0 = λ x. 32 + x * b.fill.count ≤ q in
            let R : ℕ → Type 0 = λ x. 32 + width * x ≤ q in subst R (sym n.2) (subst P n.0 b.unserved)) in omega arith)
        | inr o ↦ u.apart b.width k e (record { fill = b.fill; is = o; key_is = b.key_is })
      ]
      | inr (inr l) ↦ old_not_later (suc place) k (u.old k e) l
    ];
    keys = record {
      key_old = λ k e. own_old place k cc;
      fill_old = λ w k f. elim (cases w f.fill f.is) [
        | inl n ↦ u.old k (n.1 ∙ f.key_is)
        | inr o ↦ old_more place k (ok.fill_old w k (record { fill = f.fill; is = o; key_is = f.key_is }))
      ];
      key_apart = λ w k e f. elim (cases w f.fill f.is) [
        | inl n ↦ u.not_own k (n.1 ∙ f.key_is) cc
        | inr o ↦ own_not_old place k (cc) (ok.fill_old w k (record { fill = f.fill; is = o; key_is = f.key_is }))
      ];
      fills_apart = λ v w k f g. elim (cases v f.fill f.is) [
        | inl m ↦ elim (cases w g.fill g.is) [
          | inl n ↦ m.0 ∙ sym n.0
          | inr o ↦ absurd (u.apart w k (m.1 ∙ f.key_is) (record { fill = g.fill; is = o; key_is = g.key_is }))
        ]
        | inr p ↦ elim (cases w g.fill g.is) [
          | inl n ↦ absurd (u.apart v k (n.1 ∙ g.key_is) (record { fill = f.fill; is = p; key_is = f.key_is }))
          | inr o ↦ ok.fills_apart v w k (record { fill = f.fill; is = p; key_is = f.key_is })
              (record { fill = g.fill; is = o; key_is = g.key_is })
        ]
      ];
    };
  }
    where
      cases : (w : ℕ) (f : Fill) → filled_after place width look used fills w ≡ Some f →
          ((w ≡ width) × (used ≡ f.key) × (1 ≡ f.count)) ⊎ (fills w ≡ Some f)
      cases w f is = filled_cases place width look used fills w f is

  -- StepOk holds for an integer of a batch that was filled before
  serve_step : (place : ℕ) (key used : Option KeyName) (fills : ℕ → Option Fill) (width : ℕ) →
      KeysApart place key fills → InUse place key used fills →
      StepOk place key fills (batch_uses width (fills width)) used (served_after width fills)
  serve_step place key used fills width ok u = record {
    disjoint = batch_disjoint width (fills width);
    within = λ k q h. let m = serves fills width k q h in
        inr (inl (record { width = width; fill = m.fill; is = m.is; key_is = m.key_is; unserved = m.from }));
    before = λ k q h. elim h [
      | inl e ↦ elim (u.may k e) [ inl a ↦ inl a | inr l ↦ inr (inr l) ]
      | inr (inl b) ↦ (let m = before_serving width fills b.width b.fill b.is in
          inr (inl (record {
            width = b.width;
            fill = m.fill;
            is = m.is;
            key_is = m.same_key
                ∙ b.key_is;
            unserved = unserved b.width m.fill.count b.fill.count q b.unserved (less m);
          })))
      | inr (inr l) ↦ inr (inr (later_less place k l))
    ];
    apart = λ k q h later. let m = serves fills width k q h in
        let mf : Filled fills width k = record { fill = m.fill; is = m.is; key_is = m.key_is } in
        elim later [
          | inl e ↦ u.apart width k e mf
          | inr (inl b) ↦ (let n = before_serving width fills b.width b.fill b.is in
              let nf : Filled fills b.width k = record { fill = n.fill; is = n.is; key_is = n.same_key ∙ b.key_is } in
              let same : width ≡ b.width = ok.fills_apart width b.width k mf nf in
              served_once k q m b n same)
          | inr (inr l) ↦ old_not_next place k (ok.fill_old width k mf) l
        ];
    keys = record {
      key_old = u.old;
      fill_old = λ w k f. old_more place k (ok.fill_old w k (filled_before width fills w k f));
      key_apart = λ w k e f. u.apart w k e (filled_before width fills w k f);
      fills_apart = λ v w k f g. ok.fills_apart v w k (filled_before width fills v k f)
          (filled_before width fills w k g);
    };
  }
    where
      less : {w : ℕ} {f : Fill} → (m : Before width fills w f) → m.fill.count ≤ f.count
      less m = elim m.counts [ inl a ↦ omega arith | inr a ↦ omega arith ]

      unserved : (w i j q : ℕ) → 32 + w * j ≤ q → i ≤ j → 32 + w * i ≤ q
      unserved w i j q h le = omega (arith, mul-le-mul_left w le)

      served_once : (k : KeyName) (q : ℕ) (m : Serves fills width k q) (b : InBatch (served_after width fills) k q)
          (n : Before width fills b.width b.fill) → width ≡ b.width → ⊥
      served_once k q m b n same = elim n.counts [
        | inl a ↦ (let counts : m.fill.count ≡ n.fill.count = same_fill fills width m.fill n.fill m.is
            (ap fills same ∙ n.is) in
            let from : 32 + width * suc m.fill.count ≤ q =
            (let P : ℕ → Type 0 = λ x. 32 + x * b.fill.count ≤ q in
            let R : ℕ → Type 0 = λ x. 32 + width * x ≤ q in
            subst R (a.1 ∙ ap suc (sym counts)) (subst P (sym same) b.unserved)) in
            let below = m.below in omega arith)
        | inr a ↦ (let yes : (b.width == width) ≡ true = eq-eqb b.width width (sym same) in let no = a.0 in cc)
      ]

  -- StepOk holds for each entry of a CPU's list
  pub entry_step : (rekeys : ℕ → Bool) (s : CpuState) (e : CpuEntry) → RefillConforms base c s.place e →
      taken s.place ≡ taken_of e →
      KeysApart s.place s.key s.fills →
      StepOk s.place s.key s.fills (cpu_uses_at c rekeys s e)
      (cpu_key_after c s.place e s.key) (fills_after s.place e (cpu_key_in_use e s.key) s.fills)
  entry_step rekeys s (Read look refill t) m inferred ok =
      erase_step s.place s.key (call_or refill s.key) s.fills _
      (named_uses_disjoint (call_or refill s.key) (λ key. read_uses (rekeys s.place) key (Call (CpuLane c) s.place) t)
      (λ key. read_disjoint (rekeys s.place) key (Call (CpuLane c) s.place) t))
      (λ k q h. let n = named_uses_cases (call_or refill s.key)
      (λ key. read_uses (rekeys s.place) key (Call (CpuLane c) s.place) t) k q h in
      elim (read_within (rekeys s.place) n.0 (Call (CpuLane c) s.place) t k q n.2) [
        | inl a ↦ inl (n.1 ∙ ap Some a)
        | inr b ↦ inr (b.0, (let P : Option Taken → Type 0 = λ o. IsLong o in subst P (sym inferred) b.1))
      ])
      ok (in_use s.place s.key s.fills refill (names.made_for base c taken s.place (Read look refill t) m) ok)
  entry_step rekeys s (Int look refill width true) m inferred ok =
      fill_step s.place s.key (call_or refill s.key) s.fills _ width look
      (named_uses_disjoint (call_or refill s.key) (λ key. use_of kept key 0 32 ∷ use_of served key 32 width ∷ [])
      (λ key. Disjoint-two (use_of kept key 0 32) (use_of served key 32 width) (omega arith)))
      (λ k q h. let n = named_uses_cases (call_or refill s.key)
      (λ key. use_of kept key 0 32 ∷ use_of served key 32 width ∷ []) k q h in
      let w = fill_within n.0 width k q n.2 in (n.1 ∙ ap Some w.0, w.1))
      ok (in_use s.place s.key s.fills refill (names.made_for base c taken s.place (Int look refill width true) m) ok)
  entry_step rekeys s (Int look refill width false) m inferred ok =
      serve_step s.place s.key (call_or refill s.key) s.fills width ok
      (in_use s.place s.key s.fills refill (names.made_for base c taken s.place (Int look refill width false) m) ok)
  entry_step rekeys s (Irq v1 v2 now) m inferred ok =
      idle_step s.place s.key s.key s.fills ok
      (in_use s.place s.key s.fills None (names.made_for base c taken s.place (Irq v1 v2 now) m) ok)
  entry_step rekeys s (Dump now) m inferred ok =
      idle_step s.place s.key s.key s.fills ok
      (in_use s.place s.key s.fills None (names.made_for base c taken s.place (Dump now) m) ok)
  entry_step rekeys s Prepare m inferred ok = prepare_step s.place s.key s.fills ok
  entry_step rekeys s Online m inferred ok =
      idle_step s.place s.key s.key s.fills ok
      (in_use s.place s.key s.fills None (names.made_for base c taken s.place Online m) ok)
