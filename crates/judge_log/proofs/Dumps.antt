-- The code replays the fast pools from the inferred entries, and so computes the dumps that the pool mixes.
use Rattle.std.proofs.Common.{◌≡◌, ◌<◌, ◌+◌, ℕ, zero, suc, List, [], ◌∷◌, ◌++◌, length, Bool, Option, Some, None, refl, sym, subst, ap, ◌∙◌, arith, ◌⊎◌, inl, inr}
use Rattle.std.specs.Prelude.{slice_get, option_and_then}
use Rattle.key_names.specs.declared.entries.PoolEntry.{PoolEntry}
use Rattle.key_names.specs.declared.entries.PoolEntry.TheVariants.{Mix}
use Rattle.key_names.specs.declared.entries.CpuEntry.{CpuEntry}
use Rattle.key_names.specs.declared.entries.CpuEntry.TheVariants.{Read, Int, Irq, Dump, Prepare, Online}
use Rattle.key_names.specs.Kernel.FastPool.{FastPool, fast_start, fast_step, dump_bytes, dump_bits}
use Rattle.key_names.specs.Lanes.PoolNotes.{entry_of}
use Rattle.key_names.specs.Lanes.Book.{Lists, list_at, cpu_list}
use Rattle.key_names.specs.Callers.Effects.{CpuVisit, cpu_visit}
use Rattle.key_names.proofs.Lists.ListFacts.{list_is}
use Rattle.judge_lines.specs.declared.inferred.CpuInferred.{CpuInferred}
use Rattle.judge_lines.specs.declared.inferred.CpuInferred.TheVariants.{Is as cpu_is, Batch as batch}
use Rattle.judge_lines.specs.LaneFacts.{facts_of}
use Rattle.judge_lines.specs.Inferred.{FillsCpu}
use Rattle.sample_credit.specs.declared.fast_pool.Dump.{Dump as Dumped}
use Rattle.judge_log.specs.declared.inferred.InferredPool.{InferredPool}
use Rattle.judge_log.specs.declared.inferred.InferredPool.TheVariants.{Is as pool_is, Dumped as dumped}
use Rattle.judge_log.specs.declared.inferred.InferredCpu.{InferredCpu}
use Rattle.judge_log.specs.Closed.{closed, fast_inferred}
use Rattle.judge_log.specs.Dumps.{DueInferred, DueAt, DumpIs, dump_by, dump_inferred, fast_at, AllDumps}
use Rattle.judge_log.specs.Fills.{pool_entry}
use Rattle.judge_log.specs.Lawful.{DueConforms, DumpsAt}
use Rattle.judge_log.specs.Places.{AllPlaces, AllKept}
use Rattle.judge_log.specs.PoolLane.{dump_in, mix_of, entry_found, MixConforms}
use Rattle.judge_log.specs.Tables.{Tables}
use Rattle.judge_log.proofs.Filling.{closed_fills, fills_fast}
use Rattle.judge_log.proofs.Loops.{After, after_more, at_too, fold_at}

-- ---- options, and lists of lists

pub and_then_is : {A B : Type 0} (f : A → Option B) (o : Option A) (b : B) → option_and_then f o ≡ Some b →
    (a : A) × (o ≡ Some a) × (f a ≡ Some b)
and_then_is f None b is = cc
and_then_is f (Some a) b is = (a, refl, is)

pub some_or_none : {A : Type 0} (o : Option A) → (o ≡ None) ⊎ ((a : A) × (o ≡ Some a))
some_or_none None = inl refl
some_or_none (Some a) = inr (a, refl)

pub list_there : {E : Type 0} (xss : List (List E)) (c k : ℕ) (e : E) → slice_get (list_at xss c) k ≡ Some e →
    slice_get xss c ≡ Some (list_at xss c)
list_there [] c k e is = cc
list_there (xs ∷ xss) zero k e is = refl
list_there (xs ∷ xss) (suc c) k e is = list_there xss c k e is

pub list_within : {E : Type 0} (xss : List (List E)) (c : ℕ) → c < length xss → slice_get xss c ≡ Some (list_at xss c)
list_within [] c below = absurd (omega arith)
list_within (xs ∷ xss) zero below = refl
list_within (xs ∷ xss) (suc c) below = list_within xss c (omega arith)

-- ---- one visit of a CPU

due_there : (f : FastPool) (dumps : Bool) (t : CpuInferred) (v : CpuVisit) → FillsCpu t v → DueInferred f dumps t →
    DueConforms f dumps v.entry
due_there f dumps (cpu_is e) v h d = subst (λ x. DueConforms f dumps x) (sym h) d
due_there f dumps (batch look width) v h d = subst (λ x. DueConforms f dumps x) (sym h) tt

due_back : (f : FastPool) (dumps : Bool) (t : CpuInferred) (v : CpuVisit) → FillsCpu t v → DueConforms f dumps v.entry →
    DueInferred f dumps t
due_back f dumps (cpu_is e) v h d = subst (λ x. DueConforms f dumps x) h d
due_back f dumps (batch look width) v h d = tt

dump_same : (f : FastPool) (t : CpuInferred) (v : CpuVisit) → FillsCpu t v → dump_inferred f t ≡ dump_by f v.entry
dump_same f (cpu_is e) v h = ap (dump_by f) (sym h)
dump_same f (batch look width) v h = ap (dump_by f) (sym h)

module _ (inferred : Tables) (c i : ℕ) (t : InferredCpu) (f : FastPool) (is : slice_get (list_at inferred.cpus c) i ≡ Some t)
    (before : f ≡ fast_at (closed inferred) c i) where
  there : (e : CpuEntry) × (slice_get (cpu_list (closed inferred) c) i ≡ Some e)
  there = at_too (cpu_list (closed inferred) c) (list_at inferred.cpus c) i t ((closed_fills inferred).cpu_count c) is

  filled : FillsCpu t.entry (cpu_visit (closed inferred) c i there.0)
  filled = (closed_fills inferred).cpu c i t there.0 is there.1

  pub sample_stops : (DueInferred f t.dumps t.entry → ⊥) → AllPlaces (DueAt inferred c) (cpu_list (closed inferred) c) → ⊥
  sample_stops unfit all =
      let due : DueConforms (fast_at (closed inferred) c i) t.dumps there.0 = all i there.0 there.1 t is in
      unfit (due_back f t.dumps t.entry (cpu_visit (closed inferred) c i there.0) filled
      (subst (λ g. DueConforms g t.dumps there.0) (sym before) due))

  pub sample_more : (made : List (Option Dumped)) → DueInferred f t.dumps t.entry →
      After (DueAt inferred c) (DumpIs (closed inferred) c) (cpu_list (closed inferred) c) i made →
      After (DueAt inferred c) (DumpIs (closed inferred) c) (cpu_list (closed inferred) c) (i + 1)
      (made ++ dump_inferred f t.entry ∷ []) × (fast_inferred f t.entry ≡ fast_at (closed inferred) c (i + 1))
  sample_more made fits h = (
    after_more (DueAt inferred c) (DumpIs (closed inferred) c) (cpu_list (closed inferred) c) i made (dump_inferred f t.entry) there.0
        there.1 h due dump,
    sym (fills_fast t.entry (cpu_visit (closed inferred) c i there.0) filled f)
        ∙ ap (λ g. fast_step g there.0) before
        ∙ sym (fold_at fast_step fast_start (cpu_list (closed inferred) c) i there.0 there.1),
  )
    where
      due : DueAt inferred c i there.0
      due u at =
          let same : t ≡ u = (let both : Some t ≡ Some u = sym is ∙ at in cc) in
          subst (λ (x : InferredCpu). DueConforms (fast_at (closed inferred) c i) x.dumps there.0) same
          (subst (λ g. DueConforms g t.dumps there.0) before
          (due_there f t.dumps t.entry (cpu_visit (closed inferred) c i there.0) filled fits))

      dump : DumpIs (closed inferred) c i (dump_inferred f t.entry) there.0
      dump =
          dump_same f t.entry (cpu_visit (closed inferred) c i there.0) filled ∙ ap (λ g. dump_by g there.0) before

-- ---- the pool's entries that mix dumps

dumped_by : (f : FastPool) (e : CpuEntry) (d : Dumped) → Some d ≡ dump_by f e →
    (now : ℕ) × (e ≡ Dump now) × (d ≡ record { bytes = dump_bytes f; bits = dump_bits f })
dumped_by f (Dump now) d is = (now, refl, cc)
dumped_by f (Read look refill taken) d is = cc
dumped_by f (Int look refill width filled) d is = cc
dumped_by f (Irq v1 v2 now) d is = cc
dumped_by f Prepare d is = cc
dumped_by f Online d is = cc

module _ (lists : Lists) (dumps : List (List (Option Dumped))) (all : AllDumps lists dumps) where
  dump_there : (c k : ℕ) (d : Dumped) → dump_in dumps c k ≡ Some d →
      DumpsAt lists c k × (d ≡ record { bytes = dump_bytes (fast_at lists c k); bits = dump_bits (fast_at lists c k) })
  dump_there c k d is =
      let outer = and_then_is (λ lane. option_and_then (λ dump. dump) (slice_get lane k)) (slice_get dumps c) d is in
      let inner = and_then_is (λ (dump : Option Dumped). dump) (slice_get outer.0 k) d outer.2 in
      let lane = at_too lists.cpus dumps c outer.0 (sym all.count) outer.1 in
      let kept : AllKept (DumpIs lists c) outer.0 lane.0 = all.each c outer.0 lane.0 outer.1 lane.1 in
      let entry = at_too lane.0 outer.0 k inner.0 (sym kept.count) inner.1 in
      let dump : inner.0 ≡ dump_by (fast_at lists c k) entry.0 = kept.each k inner.0 entry.0 inner.1 entry.1 in
      let by = dumped_by (fast_at lists c k) entry.0 d (sym inner.2 ∙ dump) in
      let at : slice_get (cpu_list lists c) k ≡ Some entry.0 =
      subst (λ xs. slice_get xs k ≡ Some entry.0) (sym (list_is lists.cpus c lane.0 lane.1)) entry.1 in
      (record { now = by.0; is = at ∙ ap Some by.1 }, by.2)

  pub found_is : (t : InferredPool) (e : PoolEntry) → entry_found dumps t ≡ Some e →
      (e ≡ pool_entry (facts_of lists) t) × MixConforms lists t
  found_is (pool_is note) e is = let same : entry_of note ≡ e = cc in (sym same, tt)
  found_is (dumped c k) e is =
      let found = and_then_is mix_of (dump_in dumps c k) e is in
      let dump = dump_there c k found.0 found.1 in
      let same : Mix found.0.bytes found.0.bits ≡ e = (let both = found.2 in cc) in
      (sym same ∙ ap (λ (d : Dumped). Mix d.bytes d.bits) dump.1, dump.0)

  dump_is_there : (c k : ℕ) → DumpsAt lists c k → (d : Dumped) × (dump_in dumps c k ≡ Some d)
  dump_is_there c k h =
      let lane : slice_get lists.cpus c ≡ Some (list_at lists.cpus c) = list_there lists.cpus c k (Dump h.now) h.is in
      let kept = at_too dumps lists.cpus c (list_at lists.cpus c) all.count lane in
      let each : AllKept (DumpIs lists c) kept.0 (list_at lists.cpus c) =
      all.each c kept.0 (list_at lists.cpus c) kept.1 lane in
      let dump = at_too kept.0 (list_at lists.cpus c) k (Dump h.now) each.count h.is in
      let is : dump.0 ≡ dump_by (fast_at lists c k) (Dump h.now) = each.each k dump.0 (Dump h.now) dump.1 h.is in (
        record { bytes = dump_bytes (fast_at lists c k); bits = dump_bits (fast_at lists c k) },
        ap (option_and_then (λ lane. option_and_then (λ (dump : Option Dumped). dump) (slice_get lane k))) kept.1
            ∙ ap (option_and_then (λ (dump : Option Dumped). dump)) dump.1
            ∙ is,
      )

  pub not_found : (t : InferredPool) → entry_found dumps t ≡ None → MixConforms lists t → ⊥
  not_found (pool_is note) is h = cc
  not_found (dumped c k) is h =
      let d = dump_is_there c k h in
      let found : option_and_then mix_of (dump_in dumps c k) ≡ mix_of d.0 = ap (option_and_then mix_of) d.1 in
      let both : None ≡ mix_of d.0 = sym is ∙ found in
      cc
