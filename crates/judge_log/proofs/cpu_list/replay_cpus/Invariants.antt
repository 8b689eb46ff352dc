use Rattle.std.proofs.Common.{map}
use Rattle.judge_log.specs.Closed.{closed}
use Rattle.judge_log.specs.CpuLane.{AllCpuMay}
use Rattle.judge_log.specs.Kept.{KeepsCpuLane}
use Rattle.judge_log.specs.Tables.{tables_of}
use Rattle.judge_log.proofs.Loops.{After}
use Rattle.judge_log.proofs.cpu_list.replay_cpus.Given as goal

abbrev pub invariant-loop-cpu : goal.invariant-loop-cpu
invariant-loop-cpu l = After (λ c lane. AllCpuMay (closed (tables_of l.inferred)) c)
    (KeepsCpuLane (closed (tables_of l.inferred))) (closed (tables_of l.inferred)).cpus l.cpu
    (map (λ lane. lane.items) l.all.items)
