-- Which names a CPU has used before a place (old), and which only its later entries can use (later).
use Rattle.std.proofs.Common.{◌≡◌, ℕ, suc, ◌≤◌, ◌<◌, true, false, List, ◌⊎◌, inl, inr, refl, sym, subst, ap, ◌∙◌, arith, Some, None, Option}
use Rattle.std.specs.Option.{option_map_or}
use Rattle.key_names.specs.declared.names.LaneId.TheVariants.{Pool as PoolLane, Base as BaseLane, Cpu as CpuLane}
use Rattle.key_names.specs.declared.names.KeyName.{KeyName}
use Rattle.key_names.specs.declared.names.KeyName.TheVariants.{Root, Base, Cpu, Call, Vdso}
use Rattle.key_names.specs.declared.entries.Taken.{Taken}
use Rattle.key_names.specs.declared.entries.BaseEntry.{BaseEntry}
use Rattle.key_names.specs.declared.entries.CpuEntry.{CpuEntry}
use Rattle.key_names.specs.declared.entries.CpuEntry.TheVariants.{Read, Int, Irq, Dump, Prepare, Online}
use Rattle.key_names.specs.Lanes.BaseList.{refill_at}
use Rattle.key_names.specs.Lanes.CpuList.{RefillNames, RefillConforms, cpu_key_in_use, cpu_key_after, cpu_erases, base_refill_of}
use Rattle.key_names.proofs.Uses.UseLists.{IsLong, choice_cases}

module _ (base : List BaseEntry) (c : ℕ) (taken : ℕ → Option Taken) where
  -- refill b of the base handed over a key for place k of this CPU
  pub record MadeFor (b k : ℕ) : Type 0 where
    pub is : refill_at base b ≡ Some (c, k)

  pub made_once : (b k l : ℕ) → MadeFor b k → MadeFor b l → k ≡ l
  made_once b k l m n = ap (λ o. option_map_or (λ p. p.1) o 0) (sym m.is ∙ n.is)

  -- the name of a key that CPU `c` kept at a place before `place`, or that the base handed over for such a place
  abbrev pub IsOld : ℕ → KeyName → Type 0
  IsOld place (Cpu d i) = (d ≡ c) × (i < place)
  IsOld place (Call BaseLane b) = (k : ℕ) × MadeFor b k × (k < place)
  IsOld place _ = ⊥

  -- the name of a key that only CPU c's entries from `place` on can use
  abbrev pub IsLater : ℕ → KeyName → Type 0
  IsLater place (Cpu d i) = (d ≡ c) × (place ≤ i)
  IsLater place (Call BaseLane b) = (k : ℕ) × MadeFor b k × (place ≤ k)
  IsLater place (Call (CpuLane d) i) = (d ≡ c) × (place ≤ i) × IsLong (taken i)
  IsLater place _ = ⊥

  pub old_more : (place : ℕ) (key : KeyName) → IsOld place key → IsOld (suc place) key
  old_more place (Root r) h = h
  old_more place (Base i) h = h
  old_more place (Cpu d i) h = (h.0, omega arith)
  old_more place (Call PoolLane i) h = h
  old_more place (Call BaseLane i) h = (h.0, h.1, omega arith)
  old_more place (Call (CpuLane d) i) h = h
  old_more place (Vdso d v n) h = h

  pub later_less : (place : ℕ) (key : KeyName) → IsLater (suc place) key → IsLater place key
  later_less place (Root r) h = h
  later_less place (Base i) h = h
  later_less place (Cpu d i) h = (h.0, omega arith)
  later_less place (Call PoolLane i) h = h
  later_less place (Call BaseLane i) h = (h.0, h.1, omega arith)
  later_less place (Call (CpuLane d) i) h = (h.0, omega arith, h.2)
  later_less place (Vdso d v n) h = h

  pub old_not_later : (place : ℕ) (key : KeyName) → IsOld place key → IsLater place key → ⊥
  old_not_later place (Root r) old later = old
  old_not_later place (Base i) old later = old
  old_not_later place (Cpu d i) old later = omega arith
  old_not_later place (Call PoolLane i) old later = old
  old_not_later place (Call BaseLane b) old later =
      let e : old.0 ≡ later.0 = made_once b old.0 later.0 old.1 later.1 in omega arith
  old_not_later place (Call (CpuLane d) i) old later = old
  old_not_later place (Vdso d v n) old later = old

  pub old_not_next : (place : ℕ) (key : KeyName) → IsOld place key → IsLater (suc place) key → ⊥
  old_not_next place key old later = old_not_later place key old (later_less place key later)

  -- if k is the name of the key that the entry at `place` keeps, then only entries from `place` on can use k
  pub own_later : (place : ℕ) (k : KeyName) → Cpu c place ≡ k → IsLater place k
  own_later place k e = let P : KeyName → Type 0 = λ x. IsLater place x in subst P e (refl, omega arith)

  pub own_old : (place : ℕ) (k : KeyName) → Cpu c place ≡ k → IsOld (suc place) k
  own_old place k e = let P : KeyName → Type 0 = λ x. IsOld (suc place) x in subst P e (refl, omega arith)

  pub own_not_old : (place : ℕ) (k : KeyName) → Cpu c place ≡ k → IsOld place k → ⊥
  own_not_old place k e h =
      let P : KeyName → Type 0 = λ x. IsOld place x in
      let m : (c ≡ c) × (place < place) = subst P (sym e) h in omega arith

  pub refill_named : (place look : ℕ) (o : Option ℕ) → RefillNames base c place look o →
      (b : ℕ) → o ≡ Some b → MadeFor b place
  refill_named place look None conforms b e = cc
  refill_named place look (Some d) conforms b e =
      record { is = let p : d ≡ b = cc in ap (refill_at base) (sym p) ∙ conforms.0 }

  pub made_for : (place : ℕ) (e : CpuEntry) → RefillConforms base c place e → (b : ℕ) → base_refill_of e ≡ Some b →
      MadeFor b place
  made_for place (Read look refill taken) m b is = refill_named place look refill m b is
  made_for place (Int look refill width filled) m b is = refill_named place look refill m b is
  made_for place (Irq v1 v2 now) m b is = cc
  made_for place (Dump now) m b is = cc
  made_for place Prepare m b is = cc
  made_for place Online m b is = cc

  -- if k is the name of the key that refill `b` hands over for `place`, then only entries from `place` on can use k
  pub call_later : (place b : ℕ) (k : KeyName) → MadeFor b place → Call BaseLane b ≡ k → IsLater place k
  call_later place b k made e = let P : KeyName → Type 0 = λ x. IsLater place x in subst P e (place, made, omega arith)

  -- if the entry at place `i` erases, the key after the entry is named `Cpu c i`; otherwise the key in use stays
  pub after_cases : (i : ℕ) (e : CpuEntry) (key : Option KeyName) (k : KeyName) → cpu_key_after c i e key ≡ Some k →
      ((cpu_erases e ≡ true) × (Cpu c i ≡ k)) ⊎ ((cpu_erases e ≡ false) × (cpu_key_in_use e key ≡ Some k))
  after_cases i e key k h = elim (choice_cases (cpu_erases e) (Some (Cpu c i)) (cpu_key_in_use e key) (Some k) h)
      [ inl a ↦ inl (a.0, let p = a.1 in cc) | inr b ↦ inr b ]
