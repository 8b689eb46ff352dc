use Rattle.std.proofs.Common.{◌≡◌, ◌<◌, ◌+◌, List, length, map, All, Option, Vec, Global, IfSome, sym, subst, arith}
use Rattle.key_names.specs.Lanes.Book.{cpu_list}
use Rattle.judge_log.specs.declared.kept.KeptCpu.{KeptCpu}
use Rattle.judge_log.specs.declared.inferred.InferredCpu.{InferredCpu}
use Rattle.judge_log.specs.Closed.{closed}
use Rattle.judge_log.specs.CpuLane.{AllCpuMay}
use Rattle.judge_log.specs.Kept.{KeepsCpuLane}
use Rattle.judge_log.specs.Tables.{tables_of, CpuIsWide}
use Rattle.judge_log.proofs.Filling.{closed_fills}
use Rattle.judge_log.proofs.Lanes.{lanes_more, items_count, all_at}
use Rattle.judge_log.proofs.Loops.{After, after_all}
use Rattle.judge_log.proofs.Whole.{cpus_may}
use Rattle.judge_log.proofs.cpu_list.replay_cpus.Goals as goal

pub replay_cpu-requires-clause-widths : goal.replay_cpu-requires-clause-widths
replay_cpu-requires-clause-widths c =
    let items : length (tables_of c.args.inferred.now).cpus ≡ length c.args.inferred.now.cpus.items =
    items_count c.args.inferred.now.cpus.items in
    let below : c.loop-cpu.cpu < length (tables_of c.args.inferred.now).cpus = omega (arith, c.args.inferred.now.cpus.ok) in
    all_at (λ lane. All (λ (t : InferredCpu). CpuIsWide t.entry) lane) (tables_of c.args.inferred.now).cpus c.loop-cpu.cpu below
    c.requires.widths

pub loop-cpu-preserved : goal.loop-cpu-preserved
loop-cpu-preserved c =
    let lanes : length (closed (tables_of c.args.inferred.now)).cpus ≡ length (tables_of c.args.inferred.now).cpus =
    (closed_fills (tables_of c.args.inferred.now)).cpus_count in
    let items : length (tables_of c.args.inferred.now).cpus ≡ length c.args.inferred.now.cpus.items =
    items_count c.args.inferred.now.cpus.items in
    let below : c.loop-cpu.cpu < length (closed (tables_of c.args.inferred.now)).cpus =
    omega (arith, c.args.inferred.now.cpus.ok) in
    let P : Option (Vec KeptCpu Global) → Type 0 = λ o. IfSome o (λ kept.
    AllCpuMay (closed (tables_of c.args.inferred.now)) c.loop-cpu.cpu
    × KeepsCpuLane (closed (tables_of c.args.inferred.now)) c.loop-cpu.cpu kept.items
    (cpu_list (closed (tables_of c.args.inferred.now)) c.loop-cpu.cpu)) in
    let got = subst P c.in-Some.is c.in_ok-kept.ensures.some in
    let Q = λ (xs : List (Vec KeptCpu Global)). After (λ n lane. AllCpuMay (closed (tables_of c.args.inferred.now)) n)
    (KeepsCpuLane (closed (tables_of c.args.inferred.now))) (closed (tables_of c.args.inferred.now)).cpus (c.loop-cpu.cpu + 1)
    (map (λ w. w.items) xs) in
    subst Q (sym c.in_ok-push-in-Some.ensures.items)
    (lanes_more (λ n lane. AllCpuMay (closed (tables_of c.args.inferred.now)) n)
    (KeepsCpuLane (closed (tables_of c.args.inferred.now))) (closed (tables_of c.args.inferred.now)).cpus c.loop-cpu.cpu
    c.loop-cpu.all.items c.in-Some.kept below c.loop-cpu.invariant got.0 got.1)

pub returns-clause-some : goal.returns-clause-some
returns-clause-some c =
    let lanes : length (closed (tables_of c.args.inferred.now)).cpus ≡ length (tables_of c.args.inferred.now).cpus =
    (closed_fills (tables_of c.args.inferred.now)).cpus_count in
    let items : length (tables_of c.args.inferred.now).cpus ≡ length c.args.inferred.now.cpus.items =
    items_count c.args.inferred.now.cpus.items in
    let all = after_all (λ n lane. AllCpuMay (closed (tables_of c.args.inferred.now)) n)
    (KeepsCpuLane (closed (tables_of c.args.inferred.now))) (closed (tables_of c.args.inferred.now)).cpus c.loop-cpu.cpu
    (map (λ w. w.items) c.loop-cpu.all.items) (omega (arith, c.args.inferred.now.cpus.ok)) c.loop-cpu.invariant in
    (cpus_may (closed (tables_of c.args.inferred.now)) all.0, all.1)
