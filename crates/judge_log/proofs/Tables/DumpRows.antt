-- If rows are inferred from a line, the line's samples are lawful exactly if the conditions on dumps hold of these
-- rows.
use Rattle.std.proofs.Common.{◌≡◌, ℕ, ◌<◌, ◌⊎◌, inl, inr, Bool, true, false, List, [], ◌∷◌, refl, sym, ap, ◌∙◌, subst, Some}
use Rattle.std.specs.Prelude.{⊤, slice_get}
use Rattle.std.specs.List.{AllByRecursion}
use Rattle.key_names.specs.declared.entries.PoolEntry.TheVariants.{Mix}
use Rattle.key_names.specs.declared.entries.CpuEntry.{CpuEntry}
use Rattle.key_names.specs.declared.entries.CpuEntry.TheVariants.{Read, Int, Irq as IrqSample, Dump, Prepare, Online}
use Rattle.key_names.specs.Lanes.Book.{Lists, list_at, cpu_list}
use Rattle.key_names.specs.Callers.Calls.{Setting}
use Rattle.key_names.specs.Callers.Effects.{Effect, PoolVisit, CpuVisit, looked, at_pool, at_base, at_cpu, nothing_there}
use Rattle.key_names.specs.Kernel.FastPool.{FastPool, makes_due, dump_bytes, dump_bits}
use Rattle.key_names.specs.Callers.LineSamples.{EntryIsQuiet, IsQuiet, SamplesConform}
use Rattle.key_names.specs.Lanes.Samples.{MakesDue, IsDump}
use Rattle.judge_lines.specs.LaneFacts.{facts_of}
use Rattle.judge_lines.specs.declared.inferred.Neighbours.{Neighbours}
use Rattle.judge_lines.specs.declared.inferred.PoolInferred.{PoolInferred}
use Rattle.judge_lines.specs.declared.inferred.PoolInferred.TheVariants.{Dumped as dumped_inferred}
use Rattle.judge_lines.specs.declared.inferred.Sign.{Sign}
use Rattle.judge_lines.specs.declared.inferred.Sign.TheVariants.{Saw as saw, InPool as in_pool, InBase as in_base, InCpu as in_cpu, Nowhere as nowhere}
use Rattle.judge_lines.specs.Inferred.{Telling, mixes, credits, samples, vmforks}
use Rattle.judge_lines.specs.Inferred.{pool_inferred, own_or_extracted, sign_of, first_sign, AllFill}
use Rattle.judge_log.specs.declared.inferred.InferredPool.{InferredPool}
use Rattle.judge_log.specs.declared.inferred.InferredPool.TheVariants.{Is as pool_is, Dumped as dumped}
use Rattle.judge_log.specs.declared.inferred.InferredCpu.{InferredCpu}
use Rattle.judge_log.specs.Fills.{Fills}
use Rattle.judge_log.specs.Lawful.{Lawful, DueConforms, DumpsAt}
use Rattle.judge_log.specs.Tables.{Tables}
use Rattle.judge_log.specs.Rows.{IsPoolRow, dumps_inferred, cpu_row}
use Rattle.judge_log.proofs.Tables.RowsAfter.{CpuRow, PoolRow, RowAfter}
use Rattle.key_names.proofs.Samples.SampleLaw.{quiet_dump}
use Rattle.judge_log.proofs.Tables.IrqShapes.{IrqOnly, IrqDumps, Crossed, crosses, sample_quiet, sample_due}

-- ---- entries that make no dump due

quiet_due : (f : FastPool) (e : CpuEntry) → EntryIsQuiet f e → DueConforms f false e
quiet_due f (IrqSample v1 v2 now) quiet = quiet
quiet_due f (Dump now) quiet = tt
quiet_due f (Read look refill taken) quiet = tt
quiet_due f (Int look refill width filled) quiet = tt
quiet_due f Prepare quiet = tt
quiet_due f Online quiet = tt

made_due : (f : FastPool) (e : CpuEntry) → MakesDue f e → DueConforms f true e
made_due f (IrqSample v1 v2 now) due = due
made_due f _ due = absurd due

dump_due : (f : FastPool) (b : Bool) (e : CpuEntry) → IsDump e → DueConforms f b e
dump_due f b (Dump now) dump = tt
dump_due f b _ dump = absurd dump

-- ---- lines that are not the line of an interrupt

abbrev pub IsNoSample : Telling → Type 0
IsNoSample (samples v1 v2) = ⊥
IsNoSample _ = ⊤

no_dump_inferred : (t : Telling) (neighbours : Neighbours) → IsNoSample t → dumps_inferred t neighbours ≡ false
no_dump_inferred (samples v1 v2) neighbours plain = absurd plain
no_dump_inferred _ neighbours plain = refl

not_dumped : (set : Setting) (t : Telling) (following before : Sign) (cpu place : ℕ) →
    IsPoolRow set t (own_or_extracted following before) (dumped cpu place) → ⊥
not_dumped set t following nowhere cpu place row = row
not_dumped set t following (saw g) cpu place row = row
not_dumped set t following (in_pool p) cpu place row = row
not_dumped set t following (in_base p) cpu place row = row
not_dumped set t following (in_cpu c p) cpu place row = row

never_dumped : (set : Setting) (t : Telling) (neighbours : Neighbours) → IsNoSample t → (cpu place : ℕ) →
    IsPoolRow set t (pool_inferred t neighbours) (dumped cpu place) → ⊥
never_dumped set (mixes e) neighbours plain cpu place row =
    not_dumped set (mixes e) neighbours.following neighbours.before cpu place row
never_dumped set (credits e) neighbours plain cpu place row =
    not_dumped set (credits e) neighbours.following neighbours.before cpu place row
never_dumped set (vmforks e) neighbours plain cpu place row =
    not_dumped set (vmforks e) neighbours.following neighbours.before cpu place row
never_dumped set (samples v1 v2) neighbours plain cpu place row = absurd plain
never_dumped set _ neighbours plain cpu place row = row

module _ (inferred : Tables) (lists : Lists) where
  abbrev fast : ℕ → ℕ → FastPool
  fast = (facts_of lists).fast

  -- ---- the condition on dumps, at one place of a CPU

  abbrev pub DueHere : ℕ → ℕ → Type 0
  DueHere c k = (t : InferredCpu) (e : CpuEntry) → slice_get (list_at inferred.cpus c) k ≡ Some t →
      slice_get (cpu_list lists c) k ≡ Some e → DueConforms (fast c k) t.dumps e

  abbrev pub MixHere : ℕ → Type 0
  MixHere p = (cpu place : ℕ) → slice_get inferred.pool p ≡ Some (dumped cpu place) → DumpsAt lists cpu place

  abbrev pub TablesConform : Effect → Type 0
  TablesConform (looked g) = ⊤
  TablesConform (at_pool v) = MixHere v.place
  TablesConform (at_base v) = ⊤
  TablesConform (at_cpu v) = DueHere v.cpu v.place
  TablesConform nothing_there = ⊤

  abbrev AllConform : List Effect → Type 0
  AllConform ds = AllByRecursion TablesConform ds

  due_here : (row : InferredCpu) (v : CpuVisit) → CpuRow inferred lists row v →
      DueConforms (fast v.cpu v.place) row.dumps v.entry → DueHere v.cpu v.place
  due_here row v r due t e is at =
      let p : row ≡ t = (let q = r.row_is in cc) in
      let q : v.entry ≡ e = (let s = r.entry_is in cc) in
      let P : InferredCpu → Type 0 = λ x. DueConforms (fast v.cpu v.place) x.dumps e in
      let Q : CpuEntry → Type 0 = λ x. DueConforms (fast v.cpu v.place) row.dumps x in subst P p (subst Q q due)

  mix_here : (set : Setting) (t : Telling) (neighbours : Neighbours) (v : PoolVisit) → PoolRow inferred lists set t neighbours v →
      ((cpu place : ℕ) → IsPoolRow set t (pool_inferred t neighbours) (dumped cpu place) → DumpsAt lists cpu place) →
      MixHere v.place
  mix_here set t neighbours v r names cpu place is =
      let p : r.row.row ≡ dumped cpu place = (let q = r.row.is in cc) in
      let P : InferredPool → Type 0 = λ x. IsPoolRow set t (pool_inferred t neighbours) x in names cpu place (subst P p r.row.tells)

  -- ---- lines that make no dump due

  module _ (set : Setting) (tell : Neighbours → Telling) (first : Sign)
      (plain : (neighbours : Neighbours) → IsNoSample (tell neighbours)) where
    quiet_effect : (neighbours : Neighbours) (d : Effect) → IsQuiet fast d → RowAfter inferred lists set tell first neighbours d →
        TablesConform d
    quiet_effect neighbours (looked g) quiet row = tt
    quiet_effect neighbours (at_pool v) quiet row = mix_here set (tell neighbours) neighbours v row
        (λ cpu place names. absurd (never_dumped set (tell neighbours) neighbours (plain neighbours) cpu place names))
    quiet_effect neighbours (at_base v) quiet row = tt
    quiet_effect neighbours (at_cpu v) quiet row =
        let P : Bool → Type 0 = λ b. DueConforms (fast v.cpu v.place) b v.entry in
        due_here (cpu_row set (tell neighbours) first neighbours) v row
        (subst P (sym (no_dump_inferred (tell neighbours) neighbours (plain neighbours)))
        (quiet_due (fast v.cpu v.place) v.entry quiet))
    quiet_effect neighbours nothing_there quiet row = tt

    pub quiet_tables : (a b : Sign) (ds : List Effect) → AllByRecursion (IsQuiet fast) ds →
        AllFill (RowAfter inferred lists set tell first) a b ds → AllConform ds
    quiet_tables a b [] quiet rows = tt
    quiet_tables a b (d ∷ ds) quiet rows = (
      quiet_effect (record { second_before = a; before = b; following = first_sign ds }) d quiet.0 rows.0,
      quiet_tables b (sign_of d) ds quiet.1 rows.1,
    )

  -- ---- lines of interrupts

  module _ (set : Setting) (v1 v2 : ℕ) (ds : List Effect) where
    abbrev RowsFrom : Sign → Sign → List Effect → Type 0
    RowsFrom a b xs = AllFill (RowAfter inferred lists set (λ neighbours. samples v1 v2) (first_sign ds)) a b xs

    abbrev Rows : List Effect → Type 0
    Rows xs = RowsFrom nowhere nowhere xs

    -- if the samples of an interrupt's line are lawful, the conditions on dumps hold of the line's rows

    only_tables : IrqOnly set v1 v2 ds → SamplesConform fast ds → Rows ds → AllConform ds
    only_tables f (inl quiet) rows =
        let q = subst (AllByRecursion (IsQuiet fast)) f.effects_are quiet in
        let r = subst Rows f.effects_are rows in
        subst AllConform (sym f.effects_are)
        (due_here _ f.sample r.0 (quiet_due (fast f.sample.cpu f.sample.place) f.sample.entry q.0), tt)
    only_tables f (inr d) rows = absurd (cc (sym f.effects_are ∙ d.effects_are))

    -- after the mix of the dump, no row of the line mixes a dump
    rest_tables : (a : Sign) (rest : List Effect) (p : ℕ) → Crossed rest → RowsFrom a (in_pool p) rest → AllConform rest
    rest_tables a rest p (inl empty) rows = subst AllConform (sym empty) tt
    rest_tables a rest p (inr (inl f)) rows = subst AllConform (sym f.are) (tt, tt)
    rest_tables a rest p (inr (inr f)) rows =
        let R : List Effect → Type 0 = λ xs. RowsFrom a (in_pool p) xs in
        let r = subst R f.are rows in
        subst AllConform (sym f.are)
        (mix_here set (samples v1 v2) _ f.pool r.0 (λ cpu place names. absurd names), (tt, tt))

    named : (c k cpu place : ℕ) → DumpsAt lists c k → (cpu ≡ c) × (place ≡ k) → DumpsAt lists cpu place
    named c k cpu place at names =
        let P : ℕ → Type 0 = λ c. DumpsAt lists c place in
        let Q : ℕ → Type 0 = λ k. DumpsAt lists c k in subst P (sym names.0) (subst Q (sym names.1) at)

    dumps_tables : IrqDumps set v1 v2 ds → SamplesConform fast ds → Rows ds → AllConform ds
    dumps_tables f (inl quiet) rows =
        let q = subst (AllByRecursion (IsQuiet fast)) f.effects_are quiet in
        absurd (quiet_dump (fast f.dump.cpu f.dump.place) f.dump.entry q.1.0 (subst IsDump (sym f.dumps) tt))
    dumps_tables f (inr d) rows =
        let same : f.sample ≡ d.sample = (let p = f.effects_are in let q = d.effects_are in cc) in
        let P : CpuVisit → Type 0 = λ v. MakesDue (fast v.cpu v.place) v.entry in
        let due : MakesDue (fast f.sample.cpu f.sample.place) f.sample.entry = subst P (sym same) d.due in
        let r = subst Rows f.effects_are rows in
        let at : DumpsAt lists f.dump.cpu f.dump.place =
        record { now = set.now; is = r.1.0.entry_is ∙ ap Some f.dumps } in
        subst AllConform (sym f.effects_are) (
          due_here _ f.sample r.0 (made_due (fast f.sample.cpu f.sample.place) f.sample.entry due),
          (
            due_here _ f.dump r.1.0 (dump_due (fast f.dump.cpu f.dump.place) _ f.dump.entry
                (subst IsDump (sym f.dumps) tt)),
            (
              mix_here set (samples v1 v2) _ f.mix r.1.1.0
                  (λ cpu place names. named f.dump.cpu f.dump.place cpu place at names),
              rest_tables _ f.rest f.mix.place f.crossed r.1.1.1,
            ),
          ),
        )

    pub irq_tables : IrqOnly set v1 v2 ds ⊎ IrqDumps set v1 v2 ds → SamplesConform fast ds → Rows ds → AllConform ds
    irq_tables (inl f) conform rows = only_tables f conform rows
    irq_tables (inr f) conform rows = dumps_tables f conform rows

    -- if the conditions on dumps hold of the tables, the samples of the line are lawful

    module _ (fills : Fills inferred lists) (lawful : Lawful inferred lists) where
      -- if `row` is the row of an interrupt's sample, it records whether the sample makes a dump due
      due_is : (row : InferredCpu) (v : CpuVisit) → CpuRow inferred lists row v → v.entry ≡ IrqSample v1 v2 set.now →
          makes_due (fast v.cpu v.place) set.now ≡ row.dumps
      due_is row v r is = subst (DueConforms (fast v.cpu v.place) row.dumps) is
          (lawful.dues v.cpu v.place row v.entry r.row_is r.entry_is)

      pub only_samples : IrqOnly set v1 v2 ds → Rows ds → SamplesConform fast ds
      only_samples f rows =
          let r = subst Rows f.effects_are rows in
          inl (subst (AllByRecursion (IsQuiet fast)) (sym f.effects_are) (
            sample_quiet (fast f.sample.cpu f.sample.place) f.sample.entry v1 v2 set.now f.samples
                (due_is _ f.sample r.0 f.samples),
            tt,
          ))

      -- if the inferred entry is the mix of a dump, the visit mixes this dump
      mixed : (c k : ℕ) (t : Telling) (neighbours : Neighbours) (v : PoolVisit) → pool_inferred t neighbours ≡ dumped_inferred c k →
          PoolRow inferred lists set t neighbours v → v.entry ≡ Mix (dump_bytes (fast c k)) (dump_bits (fast c k))
      mixed c k t neighbours v is r =
          let P : PoolInferred → Type 0 = λ p. IsPoolRow set t p r.row.row in
          go r.row.row r.row.is (subst P is r.row.tells)
        where
          go : (row : InferredPool) → slice_get inferred.pool v.place ≡ Some row → IsPoolRow set t (dumped_inferred c k) row →
              v.entry ≡ Mix (dump_bytes (fast c k)) (dump_bits (fast c k))
          go (pool_is note) at names = absurd names
          go (dumped cpu place) at names =
              fills.pool v.place (dumped cpu place) v.entry at r.entry_is
              ∙ (λ i. Mix (dump_bytes (fast (names.0 i) (names.1 i))) (dump_bits (fast (names.0 i) (names.1 i))))

      pub dumps_samples : (f : IrqDumps set v1 v2 ds) → f.sample.place < f.dump.place → Rows ds → SamplesConform fast ds
      dumps_samples f after rows =
          let r = subst Rows f.effects_are rows in
          inr (record {
            sample = f.sample;
            dump = f.dump;
            mix = f.mix;
            rest = f.rest;
            effects_are = f.effects_are;
            due = sample_due (fast f.sample.cpu f.sample.place) f.sample.entry v1 v2 set.now f.samples
                (due_is _ f.sample r.0 f.samples);
            on = f.on;
            after = after;
            dumps = subst IsDump (sym f.dumps) tt;
            mixes = mixed f.dump.cpu f.dump.place (samples v1 v2) _ f.mix refl r.1.1.0;
            crosses = crosses f.rest f.crossed;
          })
