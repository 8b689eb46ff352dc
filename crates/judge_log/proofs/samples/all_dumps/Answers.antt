use Rattle.std.proofs.Common.{◌≡◌, ◌<◌, ◌+◌, List, length, map, Option, Vec, Global, IfSome, IsSome, sym, subst, arith}
use Rattle.key_names.specs.Lanes.Book.{cpu_list}
use Rattle.sample_credit.specs.declared.fast_pool.Dump.{Dump}
use Rattle.judge_log.specs.Closed.{closed}
use Rattle.judge_log.specs.Dumps.{DueAt, DumpIs}
use Rattle.judge_log.specs.Places.{AllPlaces, AllKept}
use Rattle.judge_log.specs.Tables.{tables_of}
use Rattle.judge_log.proofs.Dumps.{list_within}
use Rattle.judge_log.proofs.Filling.{closed_fills}
use Rattle.judge_log.proofs.Lanes.{lanes_more, items_count}
use Rattle.judge_log.proofs.Loops.{After, after_all}
use Rattle.judge_log.proofs.samples.all_dumps.Goals as goal

pub returns-in-None-clause-none : goal.returns-in-None-clause-none
returns-in-None-clause-none c = λ all.
    let lanes : length (closed (tables_of c.args.inferred.now)).cpus ≡ length (tables_of c.args.inferred.now).cpus =
    (closed_fills (tables_of c.args.inferred.now)).cpus_count in
    let items : length (tables_of c.args.inferred.now).cpus ≡ length c.args.inferred.now.cpus.items =
    items_count c.args.inferred.now.cpus.items in
    let below : c.loop-cpu.cpu < length (closed (tables_of c.args.inferred.now)).cpus =
    omega (arith, c.args.inferred.now.cpus.ok) in
    subst (λ o. IsSome o) c.in-None.is
    (c.in_ok-dumps.ensures.none (all c.loop-cpu.cpu (cpu_list (closed (tables_of c.args.inferred.now)) c.loop-cpu.cpu)
    (list_within (closed (tables_of c.args.inferred.now)).cpus c.loop-cpu.cpu below)))

pub loop-cpu-preserved : goal.loop-cpu-preserved
loop-cpu-preserved c =
    let lanes : length (closed (tables_of c.args.inferred.now)).cpus ≡ length (tables_of c.args.inferred.now).cpus =
    (closed_fills (tables_of c.args.inferred.now)).cpus_count in
    let items : length (tables_of c.args.inferred.now).cpus ≡ length c.args.inferred.now.cpus.items =
    items_count c.args.inferred.now.cpus.items in
    let below : c.loop-cpu.cpu < length (closed (tables_of c.args.inferred.now)).cpus =
    omega (arith, c.args.inferred.now.cpus.ok) in
    let P : Option (Vec (Option Dump) Global) → Type 0 = λ o. IfSome o (λ dumps.
    AllPlaces (DueAt (tables_of c.args.inferred.now) c.loop-cpu.cpu)
    (cpu_list (closed (tables_of c.args.inferred.now)) c.loop-cpu.cpu)
    × AllKept (DumpIs (closed (tables_of c.args.inferred.now)) c.loop-cpu.cpu) dumps.items
    (cpu_list (closed (tables_of c.args.inferred.now)) c.loop-cpu.cpu)) in
    let got = subst P c.in-Some.is c.in_ok-dumps.ensures.some in
    let Q = λ (xs : List (Vec (Option Dump) Global)). After
    (λ n lane. AllPlaces (DueAt (tables_of c.args.inferred.now) n) lane)
    (λ n kept lane. AllKept (DumpIs (closed (tables_of c.args.inferred.now)) n) kept lane)
    (closed (tables_of c.args.inferred.now)).cpus (c.loop-cpu.cpu + 1) (map (λ w. w.items) xs) in
    subst Q (sym c.in_ok-push-in-Some.ensures.items)
    (lanes_more (λ n lane. AllPlaces (DueAt (tables_of c.args.inferred.now) n) lane)
    (λ n kept lane. AllKept (DumpIs (closed (tables_of c.args.inferred.now)) n) kept lane)
    (closed (tables_of c.args.inferred.now)).cpus c.loop-cpu.cpu c.loop-cpu.all.items c.in-Some.dumps below
    c.loop-cpu.invariant got.0 got.1)

pub returns-clause-some : goal.returns-clause-some
returns-clause-some c =
    let lanes : length (closed (tables_of c.args.inferred.now)).cpus ≡ length (tables_of c.args.inferred.now).cpus =
    (closed_fills (tables_of c.args.inferred.now)).cpus_count in
    let items : length (tables_of c.args.inferred.now).cpus ≡ length c.args.inferred.now.cpus.items =
    items_count c.args.inferred.now.cpus.items in
    after_all (λ n lane. AllPlaces (DueAt (tables_of c.args.inferred.now) n) lane)
    (λ n kept lane. AllKept (DumpIs (closed (tables_of c.args.inferred.now)) n) kept lane)
    (closed (tables_of c.args.inferred.now)).cpus c.loop-cpu.cpu (map (λ w. w.items) c.loop-cpu.all.items)
    (omega (arith, c.args.inferred.now.cpus.ok)) c.loop-cpu.invariant
