-- Facts about lanes do not depend on the lists of vgetrandom states: the facts hold of all lists with the same lanes.
use Rattle.std.proofs.Common.{◌≡◌, ℕ, List, [], ◌∷◌, take, Option, Some, None, true, false, refl, sym, subst, ap, ◌∙◌}
use Rattle.std.specs.Prelude.{slice_get, if◌then◌else◌}
use Rattle.std.specs.List.{fold}
use Rattle.key_names.specs.declared.entries.CpuEntry.{CpuEntry}
use Rattle.key_names.specs.declared.entries.CpuEntry.TheVariants.{Read, Int, Irq, Dump, Prepare, Online}
use Rattle.key_names.specs.declared.entries.VEntry.{VEntry}
use Rattle.key_names.specs.Kernel.Batches.{Fill}
use Rattle.key_names.specs.Lanes.CpuList.{base_refill_of, cpu_erases}
use Rattle.key_names.specs.Kernel.Keystream.{keystream}
use Rattle.key_names.specs.Keys.KeyInUse.{call_value_or, cpu_value_in_use, cpu_value_step, cpu_value_after, cpu_value_at, cpu_used_at, zero_key}
use Rattle.key_names.specs.Lanes.Book.{Lists, LawfulLanes, cpu_list}
use Rattle.judge_log.specs.declared.kept.Lists.{Lists as KeptLists}
use Rattle.judge_log.specs.Kept.{Keeps, source_of, source_in}
use Rattle.judge_log.specs.Lawful.{Lawful}
use Rattle.judge_log.specs.Tables.{Tables}
use Rattle.judge_log.proofs.Filling.{SameLanes}

module _ (l : Lists) (states : List (List (List VEntry))) where
  -- the lists `l`, with `states` instead of the lists of vgetrandom states
  abbrev pub with_states : Lists
  with_states = record { pool = l.pool; base = l.base; cpus = l.cpus; callers = states }

  call_same : (refill : Option ℕ) (value : List ℕ) → call_value_or with_states refill value ≡ call_value_or l refill value
  call_same None value = refl
  call_same (Some b) value = refl

  in_use_same : (e : CpuEntry) (value : List ℕ) → cpu_value_in_use with_states e value ≡ cpu_value_in_use l e value
  in_use_same e value = call_same (base_refill_of e) value

  step_same : (value : List ℕ) (e : CpuEntry) → cpu_value_step with_states value e ≡ cpu_value_step l value e
  step_same value e =
      ap (λ (used : List ℕ). if cpu_erases e then keystream used 0 32 else used) (in_use_same e value)

  fold_same : (value : List ℕ) (es : List CpuEntry) →
      fold (cpu_value_step with_states) value es ≡ fold (cpu_value_step l) value es
  fold_same value [] = refl
  fold_same value (e ∷ es) =
      ap (λ v. fold (cpu_value_step with_states) v es) (step_same value e) ∙ fold_same (cpu_value_step l value e) es

  at_same : (value : List ℕ) (e : Option CpuEntry) → cpu_value_at with_states value e ≡ cpu_value_at l value e
  at_same value None = refl
  at_same value (Some e) = in_use_same e value

  used_same : (c k : ℕ) → cpu_used_at with_states c k ≡ cpu_used_at l c k
  used_same c k =
      ap (λ v. cpu_value_at with_states v (slice_get (cpu_list l c) k)) (fold_same zero_key (take k (cpu_list l c)))
      ∙ at_same (cpu_value_after l (take k (cpu_list l c))) (slice_get (cpu_list l c) k)

  source_in_same : (c : ℕ) (fill : Option Fill) →
      source_in (cpu_used_at l c) fill ≡ source_in (cpu_used_at with_states c) fill
  source_in_same c None = refl
  source_in_same c (Some fill) =
      ap (λ key. record { key = Some key; served = fill.count }) (sym (used_same c fill.place))

  source_same : (c : ℕ) (fills : ℕ → Option Fill) (k : ℕ) (e : CpuEntry) →
      source_of (cpu_used_at l c) fills k e ≡ source_of (cpu_used_at with_states c) fills k e
  source_same c fills k (Read look refill taken) =
      ap (λ key. record { key = Some key; served = 0 }) (sym (used_same c k))
  source_same c fills k (Int look refill width true) =
      ap (λ key. record { key = Some key; served = 0 }) (sym (used_same c k))
  source_same c fills k (Int look refill width false) = source_in_same c (fills width)
  source_same c fills k (Irq v1 v2 now) = refl
  source_same c fills k (Dump now) = refl
  source_same c fills k Prepare = refl
  source_same c fills k Online = refl

  kept_too : (kept : KeptLists) → Keeps kept l → Keeps kept with_states
  kept_too kept h = record {
    pool = record {
      count = h.pool.count;
      each = λ p k e made is. let one = h.pool.each p k e made is in
          record { before = one.before; crosses = one.crosses; root = one.root };
    };
    base = record {
      count = h.base.count;
      each = λ i k e made is. let one = h.base.each i k e made is in
          record { entry = one.entry; generation = one.generation; key = one.key };
    };
    cpus = record {
      count = h.cpus.count;
      each = λ c kept_lane lane made is. let all = h.cpus.each c kept_lane lane made is in record {
        count = all.count;
        each = λ place k e made_here is_here. let one = all.each place k e made_here is_here in record {
          entry = one.entry;
          generation = one.generation;
          source = one.source ∙ source_same c _ place e;
        };
      };
    };
  }

  lanes_too : LawfulLanes l → LawfulLanes with_states
  lanes_too h = record {
    forward = record { base = h.forward.base; cpus = h.forward.cpus };
    extractions = h.extractions;
    refills = h.refills;
  }

  lawful_too : (inferred : Tables) → Lawful inferred l → Lawful inferred with_states
  lawful_too inferred h = record {
    lanes = lanes_too h.lanes;
    dues = h.dues;
    mixes = λ p cpu place is. let m = h.mixes p cpu place is in record { now = m.now; is = m.is };
  }

module _ (a b : Lists) (same : SameLanes a b) where
  states_alone : with_states b a.callers ≡ a
  states_alone =
      ap (λ xs. record { pool = xs; base = b.base; cpus = b.cpus; callers = a.callers }) (sym same.pool)
      ∙ ap (λ xs. record { pool = a.pool; base = xs; cpus = b.cpus; callers = a.callers }) (sym same.base)
      ∙ ap (λ xs. record { pool = a.pool; base = a.base; cpus = xs; callers = a.callers }) (sym same.cpus)

  pub kept_of_same : (kept : KeptLists) → Keeps kept b → Keeps kept a
  kept_of_same kept h = subst (λ l. Keeps kept l) states_alone (kept_too b a.callers kept h)

  other_states : with_states a b.callers ≡ b
  other_states =
      ap (λ xs. record { pool = xs; base = a.base; cpus = a.cpus; callers = b.callers }) same.pool
      ∙ ap (λ xs. record { pool = b.pool; base = xs; cpus = a.cpus; callers = b.callers }) same.base
      ∙ ap (λ xs. record { pool = b.pool; base = b.base; cpus = xs; callers = b.callers }) same.cpus

  pub lawful_of_same : (inferred : Tables) → Lawful inferred a → Lawful inferred b
  lawful_of_same inferred h = subst (λ l. Lawful inferred l) other_states (lawful_too a b.callers inferred h)
