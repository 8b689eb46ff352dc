-- In a lawful list of the base, no byte is used twice, and no replaced key is live at the end.
use Rattle.std.proofs.Common.{◌≡◌, ℕ, suc, ◌+◌, ◌≤◌, ◌<◌, true, false, List, [], ◌∷◌, ◌⊎◌, inl, inr, refl, sym, subst, ap, ◌∙◌, arith, Some, None, Option}
use Rattle.std.specs.Prelude.{is_some, option_and_then}
use Rattle.key_names.specs.declared.names.LaneId.TheVariants.{Pool as PoolLane, Base as BaseLane, Cpu as CpuLane}
use Rattle.key_names.specs.declared.names.KeyName.{KeyName}
use Rattle.key_names.specs.declared.names.KeyName.TheVariants.{Root, Base, Cpu, Call, Vdso}
use Rattle.key_names.specs.declared.entries.BaseEntry.{BaseEntry}
use Rattle.key_names.specs.declared.entries.BaseEntry.TheVariants.{Early, Reseed, Tick, Draw, Refill, Fork, End, Wait, Resume, Interrupt, Stall, Unstall}
use Rattle.key_names.specs.declared.entries.PoolEntry.{PoolEntry}
use Rattle.key_names.specs.Keys.Uses.{Use, kept, use_of, IsUsed, Disjoint, read_uses, base_uses_at}
use Rattle.key_names.specs.Keys.LiveMaterial.{BaseReplaces}
use Rattle.key_names.specs.Lanes.BaseList.{BaseState, BaseMayCome, RootConforms, base_step, base_start, base_erases, base_key_in_use, base_key_after, root_or, root_of, roots_after, refill_of, refill_at, LawfulBase}
use Rattle.key_names.proofs.Uses.UseLists.{Disjoint-two, named_uses_cases, named_uses_disjoint, read_disjoint, read_within, choice_cases}
use Rattle.key_names.proofs.Uses.Walks.{StepFacts, Walk, walk, lawful_and_inferred}

-- the name was made by an entry of the base before `place`, or it is a root with a number below `roots`
abbrev pub IsOld : ℕ → ℕ → KeyName → Type 0
IsOld place roots (Root r) = r < roots
IsOld place roots (Base i) = i < place
IsOld place roots _ = ⊥

-- only entries of the base from `place` on can use the name; `refill` gives the refill that the entry at each place
-- names
abbrev pub IsLater : (ℕ → Option (ℕ × ℕ)) → ℕ → ℕ → KeyName → Type 0
IsLater refill place roots (Root r) = roots ≤ r
IsLater refill place roots (Base i) = place ≤ i
IsLater refill place roots (Call BaseLane i) = (place ≤ i) × (refill i ≡ None)
IsLater refill place roots _ = ⊥

old_more : (place roots roots' : ℕ) (key : KeyName) → roots ≤ roots' → IsOld place roots key →
    IsOld (suc place) roots' key
old_more place roots roots' (Root r) le h = omega arith
old_more place roots roots' (Base i) le h = omega arith
old_more place roots roots' (Cpu c k) le h = h
old_more place roots roots' (Call lane i) le h = h
old_more place roots roots' (Vdso c v n) le h = h

old_up : (place roots roots' : ℕ) (key : KeyName) → roots ≤ roots' → IsOld place roots key → IsOld place roots' key
old_up place roots roots' (Root r) le h = omega arith
old_up place roots roots' (Base i) le h = h
old_up place roots roots' (Cpu c k) le h = h
old_up place roots roots' (Call lane i) le h = h
old_up place roots roots' (Vdso c v n) le h = h

later_less : (refill : ℕ → Option (ℕ × ℕ)) (place roots roots' : ℕ) (key : KeyName) → roots ≤ roots' →
    IsLater refill (suc place) roots' key → IsLater refill place roots key
later_less refill place roots roots' (Root r) le h = omega arith
later_less refill place roots roots' (Base i) le h = omega arith
later_less refill place roots roots' (Cpu c k) le h = h
later_less refill place roots roots' (Call PoolLane i) le h = h
later_less refill place roots roots' (Call BaseLane i) le h = (omega arith, h.1)
later_less refill place roots roots' (Call (CpuLane c) i) le h = h
later_less refill place roots roots' (Vdso c v n) le h = h

old_not_later : (refill : ℕ → Option (ℕ × ℕ)) (place roots : ℕ) (key : KeyName) →
    IsOld place roots key → IsLater refill (suc place) roots key → ⊥
old_not_later refill place roots (Root r) old later = omega arith
old_not_later refill place roots (Base i) old later = omega arith
old_not_later refill place roots (Cpu c k) old later = old
old_not_later refill place roots (Call lane i) old later = old
old_not_later refill place roots (Vdso c v n) old later = old

-- the key in use at an entry e is `key`, the key before e, or the root that e names
pub in_use_cases : (e : BaseEntry) (key : Option KeyName) (k : KeyName) → base_key_in_use e key ≡ Some k →
    ((root_of e ≡ None) × (key ≡ Some k)) ⊎ ((r : ℕ) × (root_of e ≡ Some r) × (Root r ≡ k))
in_use_cases e key k = go (root_of e) refl
  where
    go : (o : Option ℕ) → root_of e ≡ o → root_or o key ≡ Some k →
        ((root_of e ≡ None) × (key ≡ Some k)) ⊎ ((r : ℕ) × (root_of e ≡ Some r) × (Root r ≡ k))
    go None is h = inl (is, h)
    go (Some r) is h = inr (r, is, cc)

roots_rise : (pool : List PoolEntry) (s : BaseState) (o : Option ℕ) → RootConforms pool s o →
    s.roots ≤ roots_after o s.roots
roots_rise pool s None h = omega arith
roots_rise pool s (Some r) h = omega arith

-- the uses of an entry do not overlap. They are uses of the key in use, or of the call key (bytes 32 to 64) of the
-- entry's place
record EntryUses (s : BaseState) (e : BaseEntry) : Type 0 where
  disjoint : Disjoint (base_uses_at s e)
  within : (k : KeyName) (q : ℕ) → IsUsed (base_uses_at s e) k q →
      (base_erases e ≡ true) × ((base_key_in_use e s.key ≡ Some k) ⊎
      ((Call BaseLane s.place ≡ k) × (refill_of e ≡ None)))

none_used : (s : BaseState) (e : BaseEntry) → base_uses_at s e ≡ [] → EntryUses s e
none_used s e is = record {
  disjoint = rw is tt;
  within = λ k q h. absurd (let P : List Use → Type 0 = λ us. IsUsed us k q in subst P is h);
}

entry_uses : (s : BaseState) (e : BaseEntry) → EntryUses s e
entry_uses s (Draw root taken) = record {
  disjoint = named_uses_disjoint _ (λ key. read_uses false key (Call BaseLane s.place) taken)
      (λ key. read_disjoint false key (Call BaseLane s.place) taken);
  within = λ k q h. let m = named_uses_cases _ (λ key. read_uses false key (Call BaseLane s.place) taken) k q h in (
    refl,
    elim (read_within false m.0 (Call BaseLane s.place) taken k q m.2)
        [ inl a ↦ inl (m.1 ∙ ap Some a) | inr b ↦ inr (b.0, refl) ],
  );
}
entry_uses s (Refill cpu cpu_place) = record {
  disjoint = named_uses_disjoint s.key _
      (λ key. Disjoint-two (use_of kept key 0 32) (use_of kept key 32 32) (omega arith));
  within = λ k q h. let m = named_uses_cases s.key (λ key. use_of kept key 0 32 ∷ use_of kept key 32 32 ∷ []) k q h in (
    refl,
    elim (m.2) [
      | inl u ↦ inl (m.1 ∙ ap Some u.same_key)
      | inr (inl u) ↦ inl (m.1 ∙ ap Some u.same_key)
      | inr
          (inr none) ↦ absurd none
    ],
  );
}
entry_uses s (Early root) = none_used s (Early root) refl
entry_uses s (Reseed root now) = none_used s (Reseed root now) refl
entry_uses s (Tick now root) = none_used s (Tick now root) refl
entry_uses s (Fork child) = none_used s (Fork child) refl
entry_uses s End = none_used s End refl
entry_uses s Wait = none_used s Wait refl
entry_uses s Resume = none_used s Resume refl
entry_uses s Interrupt = none_used s Interrupt refl
entry_uses s Stall = none_used s Stall refl
entry_uses s Unstall = none_used s Unstall refl

-- the name of the base's key in the state s is old (`IsOld`)
abbrev pub KeyIsOld : BaseState → Type 0
KeyIsOld s = (k : KeyName) → s.key ≡ Some k → IsOld s.place s.roots k

-- the key in use at an entry is either the key before the entry, which has an old name, or a new root
record InUse (refill : ℕ → Option (ℕ × ℕ)) (s : BaseState) (e : BaseEntry) : Type 0 where
  rise : s.roots ≤ roots_after (root_of e) s.roots
  old : (k : KeyName) → base_key_in_use e s.key ≡ Some k → IsOld s.place (roots_after (root_of e) s.roots) k
  may_use : (k : KeyName) → base_key_in_use e s.key ≡ Some k → (s.key ≡ Some k) ⊎ IsLater refill s.place s.roots k

in_use : (refill : ℕ → Option (ℕ × ℕ)) (pool : List PoolEntry) (s : BaseState) (e : BaseEntry) →
    RootConforms pool s (root_of e) → KeyIsOld s → InUse refill s e
in_use refill pool s e conforms old = record {
  rise = rise;
  old = λ k h. elim (in_use_cases e s.key k h) [
    | inl a ↦ old_up s.place s.roots _ k rise (old k a.1)
    | inr b ↦ let P : KeyName → Type 0 = λ x. IsOld s.place (roots_after (root_of e) s.roots) x in
        subst P b.2 (let Q : Option ℕ → Type 0 = λ o. b.0 < roots_after o s.roots in
        let lt : b.0 < suc b.0 = omega arith in subst Q (sym b.1) lt)
  ];
  may_use = λ k h. elim (in_use_cases e s.key k h) [
    | inl a ↦ inl a.1
    | inr b ↦ inr (let P : KeyName → Type 0 = λ x. IsLater refill s.place s.roots x in
        subst P b.2 (named_conforms b.0 b.1))
  ];
}
  where
    rise : s.roots ≤ roots_after (root_of e) s.roots
    rise = roots_rise pool s (root_of e) conforms

    named_conforms : (r : ℕ) → root_of e ≡ Some r → s.roots ≤ r
    named_conforms r is = let W : Option ℕ → Type 0 = λ o. RootConforms pool s o in
        let R : RootConforms pool s (Some r) = subst W is conforms in R.0

-- if the entry at place `i` erases, the key after the entry is named `Base i`; otherwise the key in use stays
pub after_cases : (i : ℕ) (e : BaseEntry) (key : Option KeyName) (k : KeyName) → base_key_after i e key ≡ Some k →
    ((base_erases e ≡ true) × (Base i ≡ k)) ⊎ ((base_erases e ≡ false) × (base_key_in_use e key ≡ Some k))
after_cases i e key k h = elim (choice_cases (base_erases e) (Some (Base i)) (base_key_in_use e key) (Some k) h)
    [ inl a ↦ inl (a.0, let p = a.1 in cc) | inr b ↦ inr b ]

old_after : (refill : ℕ → Option (ℕ × ℕ)) (s : BaseState) (e : BaseEntry) → InUse refill s e → KeyIsOld (base_step s e)
old_after refill s e used k h = elim (after_cases s.place e s.key k h) [
  | inl a ↦ (let P : KeyName → Type 0 = λ x. IsOld (suc s.place) (roots_after (root_of e) s.roots) x in
      subst P a.1 (let lt : s.place < suc s.place = omega arith in lt))
  | inr b ↦ old_more s.place (roots_after (root_of e) s.roots) _ k (omega arith) (used.old k b.1)
]

-- entries after the state s may use byte q of the key k
abbrev pub MayUse : (ℕ → Option (ℕ × ℕ)) → BaseState → KeyName → ℕ → Type 0
MayUse refill s k q = (s.key ≡ Some k) ⊎ IsLater refill s.place s.roots k

-- the base may have the key k in the state s or later
abbrev pub MayHold : (ℕ → Option (ℕ × ℕ)) → BaseState → KeyName → Type 0
MayHold refill s k = MayUse refill s k 0

-- if MayUse allows a byte after the entry `e`, it also allows the byte before `e`
may_before : (refill : ℕ → Option (ℕ × ℕ)) (s : BaseState) (e : BaseEntry) → InUse refill s e →
    (k : KeyName) (q : ℕ) → MayUse refill (base_step s e) k q → MayUse refill s k q
may_before refill s e used k q (inr later) = inr (later_less refill s.place s.roots _ k used.rise later)
may_before refill s e used k q (inl h) = elim (after_cases s.place e s.key k h) [
  | inl a ↦ inr (let P : KeyName → Type 0 = λ x. IsLater refill s.place s.roots x in
      subst P a.1 (let le : s.place ≤ s.place = omega arith in le))
  | inr b ↦ used.may_use k b.1
]

-- if an entry uses a byte, MayUse does not allow the byte after the entry
now_not_later : (refill : ℕ → Option (ℕ × ℕ)) (s : BaseState) (e : BaseEntry) → InUse refill s e →
    (k : KeyName) (q : ℕ) → base_erases e ≡ true →
    (base_key_in_use e s.key ≡ Some k) ⊎ ((Call BaseLane s.place ≡ k) × (refill_of e ≡ None)) →
    MayUse refill (base_step s e) k q → ⊥
now_not_later refill s e used k q erases (inl now) (inr later) =
    old_not_later refill s.place (roots_after (root_of e) s.roots) k (used.old k now) later
now_not_later refill s e used k q erases (inr now) (inr later) =
    let P : KeyName → Type 0 = λ x. IsLater refill (suc s.place) (roots_after (root_of e) s.roots) x in
    let m : (suc s.place ≤ s.place) × (refill s.place ≡ None) = subst P (sym now.0) later in omega arith
now_not_later refill s e used k q erases now (inl h) = elim (after_cases s.place e s.key k h) [
  | inl a ↦ elim now [
    | inl u ↦ (let P : KeyName → Type 0 = λ x. IsOld s.place (roots_after (root_of e) s.roots) x in
        let m : s.place < s.place = subst P (sym a.1) (used.old k u) in omega arith)
    | inr c ↦ (let p = a.1 in let r = c.0 in cc)
  ]
  | inr b ↦ (let p = b.0 in cc)
]

-- if an entry names the root `r`, then the name of `r` is not old before the entry
root_not_old : (pool : List PoolEntry) (s : BaseState) (o : Option ℕ) (r : ℕ) (k : KeyName) → RootConforms pool s o →
    o ≡ Some r →
    Root r ≡ k → IsOld s.place s.roots k → ⊥
root_not_old pool s None r k conforms is e old = cc
root_not_old pool s (Some t) r k conforms is e old =
    let P : KeyName → Type 0 = λ x. IsOld s.place s.roots x in
    let m : r < s.roots = subst P (sym e) old in
    let same : t ≡ r = cc in let le = conforms.0 in omega arith

some_of : (o : Option ℕ) → is_some o ≡ true → (r : ℕ) × (o ≡ Some r)
some_of None h = cc
some_of (Some r) h = (r, refl)

-- a root that an entry names replaces the base's key. MayUse allows no byte of the replaced key after the entry
replaced_not_later : (refill : ℕ → Option (ℕ × ℕ)) (pool : List PoolEntry) (s : BaseState) (e : BaseEntry) →
    RootConforms pool s (root_of e) →
    InUse refill s e → KeyIsOld s → (k : KeyName) (q : ℕ) → is_some (root_of e) ≡ true → s.key ≡ Some k →
    MayUse refill (base_step s e) k q → ⊥
replaced_not_later refill pool s e conforms used old k q named is (inr later) =
    old_not_later refill s.place (roots_after (root_of e) s.roots) k
    (old_up s.place s.roots _ k used.rise (old k is)) later
replaced_not_later refill pool s e conforms used old k q named is (inl h) = elim (after_cases s.place e s.key k h) [
  | inl a ↦ (let P : KeyName → Type 0 = λ x. IsOld s.place s.roots x in
      let m : s.place < s.place = subst P (sym a.1) (old k is) in omega arith)
  | inr b ↦ elim (in_use_cases e s.key k b.1) [
    | inl c ↦ (let t = some_of (root_of e) named in let p = c.0 in let r = t.1 in cc)
    | inr d ↦ root_not_old pool s (root_of e) d.0 k conforms d.1 d.2 (old k is)
  ]
]

-- the entry may come, and at its place `refill` gives the refill that the entry names
abbrev MayComeInferred : List PoolEntry → (ℕ → Option (ℕ × ℕ)) → BaseState → BaseEntry → Type 0
MayComeInferred pool refill s e = BaseMayCome pool s e × (refill s.place ≡ refill_of e)

abbrev BaseFacts : List PoolEntry → (ℕ → Option (ℕ × ℕ)) → BaseState → BaseEntry → Type 0
BaseFacts pool refill s e =
    StepFacts (MayComeInferred pool refill) base_step base_uses_at BaseReplaces KeyIsOld (MayUse refill) (MayHold refill)
    s e

base_facts : (pool : List PoolEntry) (refill : ℕ → Option (ℕ × ℕ)) (s : BaseState) (e : BaseEntry) →
    MayComeInferred pool refill s e → KeyIsOld s → BaseFacts pool refill s e
base_facts pool refill s e may old = record {
  disjoint = now.disjoint;
  within = λ k q h. elim ((now.within k q h).1) [
    | inl u ↦ used.may_use k u
    | inr c ↦ inr (let P : KeyName → Type 0 = λ x. IsLater refill s.place s.roots x in
        subst P c.0 (omega arith, may.1 ∙ c.1))
  ];
  before = may_before refill s e used;
  apart = λ k q h later. let w = now.within k q h in now_not_later refill s e used k q w.0 w.1 later;
  held_before = λ k h. may_before refill s e used k 0 h;
  replaced = λ k h. elim h [ inl a ↦ inl a.1 | inr b ↦ used.may_use k b.1 ];
  gone = λ k h later. elim h [
    | inl a ↦ replaced_not_later refill pool s e may.0.root used old k 0 a.0 a.1 later
    | inr b ↦ now_not_later refill s e used k 0 b.0 (inl b.1) later
  ];
  holds = old_after refill s e used;
}
  where
    now : EntryUses s e
    now = entry_uses s e

    used : InUse refill s e
    used = in_use refill pool s e may.0.root old

-- a walk (`Walk`) over the whole list of the base
abbrev pub BaseWalk : List PoolEntry → List BaseEntry → Type 0
BaseWalk pool base =
    Walk (MayComeInferred pool (refill_at base)) base_step base_uses_at BaseReplaces KeyIsOld (MayUse (refill_at base))
    (MayHold (refill_at base)) base_start base

pub base_walk : (pool : List PoolEntry) (base : List BaseEntry) → LawfulBase pool base → BaseWalk pool base
base_walk pool base lawful =
    walk (MayComeInferred pool (refill_at base)) base_step base_uses_at BaseReplaces KeyIsOld (MayUse (refill_at base))
    (MayHold (refill_at base))
    (base_facts pool (refill_at base)) base_start base
    (lawful_and_inferred (BaseMayCome pool) base_step (λ s. s.place) (λ s e. refl) (refill_at base)
    refill_of base_start base
    (λ j e is. let p : 0 + j ≡ j = omega arith in ap (refill_at base) p ∙ ap (option_and_then refill_of) is) lawful)
    (λ k h. let p = h in cc)
