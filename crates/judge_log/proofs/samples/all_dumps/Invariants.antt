use Rattle.std.proofs.Common.{map}
use Rattle.judge_log.specs.Closed.{closed}
use Rattle.judge_log.specs.Dumps.{DueAt, DumpIs}
use Rattle.judge_log.specs.Places.{AllPlaces, AllKept}
use Rattle.judge_log.specs.Tables.{tables_of}
use Rattle.judge_log.proofs.Loops.{After}
use Rattle.judge_log.proofs.samples.all_dumps.Given as goal

abbrev pub invariant-loop-cpu : goal.invariant-loop-cpu
invariant-loop-cpu l = After (λ c lane. AllPlaces (DueAt (tables_of l.inferred) c) lane)
    (λ c kept lane. AllKept (DumpIs (closed (tables_of l.inferred)) c) kept lane) (closed (tables_of l.inferred)).cpus l.cpu
    (map (λ lane. lane.items) l.all.items)
