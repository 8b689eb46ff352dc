use Rattle.std.proofs.Common.{◌≡◌}
use Rattle.key_names.specs.Lanes.Book.{list_at, cpu_list}
use Rattle.judge_log.specs.Closed.{closed}
use Rattle.judge_log.specs.Dumps.{DueAt, DumpIs, fast_at}
use Rattle.judge_log.specs.Tables.{tables_of}
use Rattle.judge_log.proofs.Loops.{After}
use Rattle.judge_log.proofs.samples.dumps_of.Given as goal

abbrev pub invariant-loop-one : goal.invariant-loop-one
invariant-loop-one l = record {
  items : l.one-items ≡ list_at (tables_of l.inferred).cpus l.cpu;
  fast : l.fast ≡ fast_at (closed (tables_of l.inferred)) l.cpu l.one-index;
  following : After (DueAt (tables_of l.inferred) l.cpu) (DumpIs (closed (tables_of l.inferred)) l.cpu)
      (cpu_list (closed (tables_of l.inferred)) l.cpu) l.one-index l.dumps.items;
}
