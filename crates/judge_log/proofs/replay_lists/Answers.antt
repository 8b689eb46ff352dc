use Rattle.std.proofs.Common.{◌≡◌, map, Option, Some, None, Vec, Global, IfSome, IsSome, refl, sym, subst}
use Rattle.std.proofs.lemmas.Bool.{false≢true}
use Rattle.sample_credit.specs.declared.fast_pool.Dump.{Dump}
use Rattle.judge_log.specs.declared.kept.KeptPool.{KeptPool}
use Rattle.judge_log.specs.declared.kept.KeptBase.{KeptBase}
use Rattle.judge_log.specs.declared.kept.KeptCpu.{KeptCpu}
use Rattle.judge_log.specs.declared.kept.Lists.{Lists as KeptLists}
use Rattle.judge_log.specs.BaseLane.{AllBaseMay}
use Rattle.judge_log.specs.Closed.{closed}
use Rattle.judge_log.specs.CpuLane.{AllCpusMay}
use Rattle.judge_log.specs.Dumps.{AllDue, AllDumps}
use Rattle.judge_log.specs.Kept.{KeepsPoolLane, KeepsBaseLane, KeepsCpuLane}
use Rattle.judge_log.specs.Lawful.{Lawful}
use Rattle.judge_log.specs.Names.{AllExtractionsAnswered, AllRefillsAnswered}
use Rattle.judge_log.specs.Places.{AllKept}
use Rattle.judge_log.specs.PoolLane.{AllMixed}
use Rattle.judge_log.specs.Tables.{Tables, tables_of}
use Rattle.judge_log.proofs.Whole.{extractions_back, refills_back, base_may_come, cpus_may_come, all_due, all_mixed, closed_lawful, keeps_all, lists_found}
use Rattle.judge_log.proofs.replay_lists.Goals as goal
use Rattle.judge_log.proofs.replay_lists.Goals.{else-extractions_answered-via-then-extractions_answered+else-refills_answered, else-extractions_answered-via-else-extractions_answered}

-- `dumps` has the dumps of all CPUs, and each interrupt makes a dump due exactly if its line has a dump
abbrev DumpsFound : Tables → Vec (Vec (Option Dump) Global) Global → Type 0
DumpsFound inferred dumps = AllDue inferred × AllDumps (closed inferred) (map (λ lane. lane.items) dumps.items)

abbrev PoolFound : Tables → Vec KeptPool Global → Type 0
PoolFound inferred kept = AllMixed inferred × KeepsPoolLane kept.items (closed inferred)

abbrev BaseFound : Tables → Vec KeptBase Global → Type 0
BaseFound inferred kept = AllBaseMay (closed inferred) × KeepsBaseLane kept.items (closed inferred)

abbrev CpusFound : Tables → Vec (Vec KeptCpu Global) Global → Type 0
CpusFound inferred kept = AllCpusMay (closed inferred)
    × AllKept (KeepsCpuLane (closed inferred)) (map (λ lane. lane.items) kept.items) (closed inferred).cpus

found : {A : Type 0} (P : A → Type 0) (o : Option A) (a : A) → o ≡ Some a → IfSome o P → P a
found P o a is h = subst (λ x. IfSome x P) is h

missed : {A B : Type 0} (o : Option A) → o ≡ None → IsSome o → B
missed o is h = absurd (false≢true (subst (λ x. IsSome x) is h))

pub returns-in_default-clause-only : goal.returns-in_default-clause-only
returns-in_default-clause-only c = λ lists fills lawful.
    missed c.in_ok-dumps.field-0 c.in_default.is
    (c.in_ok-dumps.ensures.none
    (all_due (tables_of c.args.inferred.now) (closed_lawful (tables_of c.args.inferred.now) lists fills lawful)))

pub returns-in_default-2-clause-only : goal.returns-in_default-2-clause-only
returns-in_default-2-clause-only c = λ lists fills lawful.
    missed c.in_ok-pool.field-0 c.in_default-2.is
    (c.in_ok-pool.ensures.none
    (all_mixed (tables_of c.args.inferred.now) (closed_lawful (tables_of c.args.inferred.now) lists fills lawful)))

pub returns-in_default-3-clause-only : goal.returns-in_default-3-clause-only
returns-in_default-3-clause-only c = λ lists fills lawful.
    missed c.in_ok-base.field-0 c.in_default-3.is
    (c.in_ok-base.ensures.none
    (base_may_come (closed (tables_of c.args.inferred.now))
    (closed_lawful (tables_of c.args.inferred.now) lists fills lawful).lanes))

pub returns-in_default-4-clause-only : goal.returns-in_default-4-clause-only
returns-in_default-4-clause-only c = λ lists fills lawful.
    missed c.in_ok-cpus.field-0 c.in_default-4.is
    (c.in_ok-cpus.ensures.none
    (cpus_may_come (closed (tables_of c.args.inferred.now))
    (closed_lawful (tables_of c.args.inferred.now) lists fills lawful).lanes))

pub returns-then-refills_answered-clause-some : goal.returns-then-refills_answered-clause-some
returns-then-refills_answered-clause-some c =
    let inferred : Tables = tables_of c.args.inferred.now in
    let dumps = found (DumpsFound (tables_of c.args.inferred.now)) c.in_ok-dumps.field-0 c.in-Some.dumps c.in-Some.is
    c.in_ok-dumps.ensures.some in
    let pool = found (PoolFound (tables_of c.args.inferred.now)) c.in_ok-pool.field-0 c.in-Some-2.pool c.in-Some-2.is
    c.in_ok-pool.ensures.some in
    let base = found (BaseFound (tables_of c.args.inferred.now)) c.in_ok-base.field-0 c.in-Some-3.base c.in-Some-3.is
    c.in_ok-base.ensures.some in
    let cpus = found (CpusFound (tables_of c.args.inferred.now)) c.in_ok-cpus.field-0 c.in-Some-4.cpus c.in-Some-4.is
    c.in_ok-cpus.ensures.some in
    let kept : KeptLists = record { pool = c.in-Some-2.pool; base = c.in-Some-3.base; cpus = c.in-Some-4.cpus } in
    let extractions : AllExtractionsAnswered c.in-Some-2.pool.items c.in-Some-3.base.items =
    subst (λ xs. AllExtractionsAnswered xs c.in-Some-3.base.items) c.deref-4.ensures.value
    (subst (λ xs. AllExtractionsAnswered c.deref-4.result.now xs) c.deref-5.ensures.value
    (c.if-extractions_answered.ensures.0 refl)) in
    let refills : AllRefillsAnswered c.in-Some-3.base.items (map (λ lane. lane.items) c.in-Some-4.cpus.items) =
    subst (λ xs. AllRefillsAnswered xs (map (λ lane. lane.items) c.in-Some-4.cpus.items))
    c.deref-then-extractions_answered.ensures.value
    (subst (λ xs. AllRefillsAnswered c.deref-then-extractions_answered.result.now (map (λ lane. lane.items) xs))
    c.deref-then-extractions_answered-2.ensures.value (c.if-refills_answered.ensures.0 refl)) in
    lists_found inferred kept dumps.0 pool.0 base.0 cpus.0 (record { pool = pool.1; base = base.1; cpus = cpus.1 })
    extractions refills

pub returns-then-refills_answered-clause-only : goal.returns-then-refills_answered-clause-only
returns-then-refills_answered-clause-only c = λ lists fills lawful.
    let pool = found (PoolFound (tables_of c.args.inferred.now)) c.in_ok-pool.field-0 c.in-Some-2.pool c.in-Some-2.is
    c.in_ok-pool.ensures.some in
    let base = found (BaseFound (tables_of c.args.inferred.now)) c.in_ok-base.field-0 c.in-Some-3.base c.in-Some-3.is
    c.in_ok-base.ensures.some in
    let cpus = found (CpusFound (tables_of c.args.inferred.now)) c.in_ok-cpus.field-0 c.in-Some-4.cpus c.in-Some-4.is
    c.in_ok-cpus.ensures.some in
    let kept : KeptLists = record { pool = c.in-Some-2.pool; base = c.in-Some-3.base; cpus = c.in-Some-4.cpus } in
    keeps_all (tables_of c.args.inferred.now) lists kept fills
    (record { pool = pool.1; base = base.1; cpus = cpus.1 })

pub returns-clause-only : goal.returns-clause-only
returns-clause-only c = λ lists fills lawful.
    let pool = found (PoolFound (tables_of c.args.inferred.now)) c.in_ok-pool.field-0 c.in-Some-2.pool c.in-Some-2.is
    c.in_ok-pool.ensures.some in
    let base = found (BaseFound (tables_of c.args.inferred.now)) c.in_ok-base.field-0 c.in-Some-3.base c.in-Some-3.is
    c.in_ok-base.ensures.some in
    let cpus = found (CpusFound (tables_of c.args.inferred.now)) c.in_ok-cpus.field-0 c.in-Some-4.cpus c.in-Some-4.is
    c.in_ok-cpus.ensures.some in
    let law : Lawful (tables_of c.args.inferred.now) (closed (tables_of c.args.inferred.now)) =
    closed_lawful (tables_of c.args.inferred.now) lists fills lawful in
    let extractions : AllExtractionsAnswered c.in-Some-2.pool.items c.in-Some-3.base.items =
    extractions_back (closed (tables_of c.args.inferred.now)) c.in-Some-2.pool.items c.in-Some-3.base.items
    (map (λ lane. lane.items) c.in-Some-4.cpus.items) pool.1 base.1 cpus.1 law.lanes.extractions in
    let refills : AllRefillsAnswered c.in-Some-3.base.items (map (λ lane. lane.items) c.in-Some-4.cpus.items) =
    refills_back (closed (tables_of c.args.inferred.now)) c.in-Some-2.pool.items c.in-Some-3.base.items
    (map (λ lane. lane.items) c.in-Some-4.cpus.items) pool.1 base.1 cpus.1 law.lanes.refills in
    elim c.else-extractions_answered.branch [
      | else-extractions_answered-via-then-extractions_answered+else-refills_answered w ↦ absurd (false≢true
          (w.if-refills_answered.ensures.1
          (subst (λ xs. AllRefillsAnswered xs (map (λ lane. lane.items) w.deref-then-extractions_answered-2.result.now))
          (sym w.deref-then-extractions_answered.ensures.value)
          (subst (λ xs. AllRefillsAnswered c.in-Some-3.base.items (map (λ lane. lane.items) xs))
          (sym w.deref-then-extractions_answered-2.ensures.value) refills))))
      | else-extractions_answered-via-else-extractions_answered w ↦ absurd (false≢true
          (w.if-extractions_answered.ensures.1
          (subst (λ xs. AllExtractionsAnswered xs c.deref-5.result.now) (sym c.deref-4.ensures.value)
          (subst (λ xs. AllExtractionsAnswered c.in-Some-2.pool.items xs) (sym c.deref-5.ensures.value) extractions))))
    ]
