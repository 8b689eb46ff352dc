-- In a lawful list of a CPU, no byte is used twice, and no replaced key is live at the end.
use Rattle.std.proofs.Common.{◌≡◌, ℕ, suc, ◌+◌, Bool, true, List, ◌⊎◌, inl, inr, refl, ap, ◌∙◌, arith, Some, None, Option}
use Rattle.std.specs.Prelude.{option_and_then, is_some}
use Rattle.key_names.specs.declared.names.KeyName.{KeyName}
use Rattle.key_names.specs.declared.entries.BaseEntry.{BaseEntry}
use Rattle.key_names.specs.declared.entries.CpuEntry.{CpuEntry}
use Rattle.key_names.specs.declared.entries.Taken.{Taken}
use Rattle.key_names.specs.Keys.Uses.{cpu_uses_at}
use Rattle.key_names.specs.Keys.LiveMaterial.{CpuReplaces}
use Rattle.key_names.specs.Kernel.Batches.{fills_after}
use Rattle.key_names.specs.Lanes.CpuList.{CpuState, CpuMayCome, cpu_step, cpu_start, cpu_key_in_use, cpu_key_after, call_or, base_refill_of, taken_of, taken_at, LawfulCpu}
use Rattle.key_names.proofs.Uses.BatchFills.{none_filled}
use Rattle.key_names.proofs.Uses.CpuNames as names
use Rattle.key_names.proofs.Uses.CpuSteps as steps
use Rattle.key_names.proofs.Uses.Walks.{StepFacts, Walk, walk, lawful_and_inferred}

module _ (base : List BaseEntry) (c : ℕ) (taken : ℕ → Option Taken) where
  -- the CPU may have the key k in the state s or later
  abbrev pub MayHold : CpuState → KeyName → Type 0
  MayHold s k = (s.key ≡ Some k) ⊎ names.IsLater base c taken s.place k

  abbrev pub MayUseIn : CpuState → KeyName → ℕ → Type 0
  MayUseIn s k q = steps.MayUse base c taken s.place s.key s.fills k q

  abbrev pub Apart : CpuState → Type 0
  Apart s = steps.KeysApart base c taken s.place s.key s.fills

  abbrev pub MayComeInferred : CpuState → CpuEntry → Type 0
  MayComeInferred s e = CpuMayCome base c s e × (taken s.place ≡ taken_of e)

  -- the key that a refill replaces is never the key in use at that refill
  replaced_not_used : (place : ℕ) (key : Option KeyName) (o : Option ℕ) →
      ((b : ℕ) → o ≡ Some b → names.MadeFor base c taken b place) →
      (k : KeyName) → is_some o ≡ true → names.IsOld base c taken place k → call_or o key ≡ Some k → ⊥
  replaced_not_used place key None made k some old h = cc
  replaced_not_used place key (Some b) made k some old h =
      names.old_not_later base c taken place k old (names.call_later base c taken place b k (made b refl) cc)

  abbrev pub CpuFacts : (ℕ → Bool) → CpuState → CpuEntry → Type 0
  CpuFacts rekeys s e = StepFacts MayComeInferred (cpu_step base c) (cpu_uses_at c rekeys)
      CpuReplaces Apart MayUseIn MayHold s e

  cpu_facts : (rekeys : ℕ → Bool) (s : CpuState) (e : CpuEntry) → MayComeInferred s e → Apart s → CpuFacts rekeys s e
  cpu_facts rekeys s e may ok = record {
    disjoint = now.disjoint;
    within = now.within;
    before = now.before;
    apart = now.apart;
    held_before = λ k h. elim h [
      | inl e' ↦ elim (names.after_cases base c taken s.place e s.key k e')
          [ inl own ↦ inr (names.own_later base c taken s.place k own.1) | inr u ↦ used.may k u.1 ]
      | inr l ↦ inr (names.later_less base c taken s.place k l)
    ];
    replaced = λ k h. elim h [ inl a ↦ inl a.1 | inr b ↦ used.may k b.1 ];
    gone = λ k h later. elim h [
      | inl a ↦ elim later [
        | inl e' ↦ elim (names.after_cases base c taken s.place e s.key k e') [
          | inl own ↦ names.own_not_old base c taken s.place k own.1 (ok.key_old k a.1)
          | inr u ↦ replaced_not_used s.place s.key (base_refill_of e) made k a.0 (ok.key_old k a.1) u.1
        ]
        | inr l ↦ names.old_not_next base c taken s.place k (ok.key_old k a.1) l
      ]
      | inr b ↦ elim later [
        | inl e' ↦ elim (names.after_cases base c taken s.place e s.key k e') [
          | inl own ↦ used.not_own k b.1 own.1
          | inr u ↦ (let p = b.0 in let r = u.0 in cc)
        ]
        | inr l ↦ names.old_not_later base c taken (suc s.place) k (used.old k b.1) l
      ]
    ];
    holds = now.keys;
  }
    where
      made : (b : ℕ) → base_refill_of e ≡ Some b → names.MadeFor base c taken b s.place
      made = names.made_for base c taken s.place e may.0.refill

      used : steps.InUse base c taken s.place s.key (cpu_key_in_use e s.key) s.fills
      used = steps.in_use base c taken s.place s.key s.fills (base_refill_of e) made ok

      now : steps.StepOk base c taken s.place s.key s.fills (cpu_uses_at c rekeys s e)
          (cpu_key_after c s.place e s.key) (fills_after s.place e (cpu_key_in_use e s.key) s.fills)
      now = steps.entry_step base c taken rekeys s e may.0.refill may.1 ok

  keys_at_start : Apart cpu_start
  keys_at_start = record {
    key_old = λ k e. let p = e in cc;
    fill_old = λ w k f. absurd (none_filled w k f);
    key_apart = λ w k e f. none_filled w k f;
    fills_apart = λ v w k f g. absurd (none_filled v k f);
  }

-- a walk (`Walk`) over the whole list of a CPU
abbrev pub CpuWalk : List BaseEntry → ℕ → (ℕ → Bool) → List CpuEntry → Type 0
CpuWalk base c rekeys es =
    Walk (MayComeInferred base c (taken_at es)) (cpu_step base c) (cpu_uses_at c rekeys) CpuReplaces
    (Apart base c (taken_at es))
    (MayUseIn base c (taken_at es)) (MayHold base c (taken_at es)) cpu_start es

pub cpu_walk : (base : List BaseEntry) (c : ℕ) (rekeys : ℕ → Bool) (es : List CpuEntry) → LawfulCpu base c es →
    CpuWalk base c rekeys es
cpu_walk base c rekeys es lawful =
    walk (MayComeInferred base c (taken_at es)) (cpu_step base c) (cpu_uses_at c rekeys) CpuReplaces
    (Apart base c (taken_at es))
    (MayUseIn base c (taken_at es)) (MayHold base c (taken_at es))
    (cpu_facts base c (taken_at es) rekeys) cpu_start es
    (lawful_and_inferred (CpuMayCome base c) (cpu_step base c) (λ s. s.place) (λ s e. refl)
    (taken_at es) taken_of cpu_start es
    (λ j e is. let p : 0 + j ≡ j = omega arith in ap (taken_at es) p ∙ ap (option_and_then taken_of) is) lawful)
    (keys_at_start base c (taken_at es))
