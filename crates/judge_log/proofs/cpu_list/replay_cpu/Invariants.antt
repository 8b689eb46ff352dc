use Rattle.std.proofs.Common.{◌≡◌}
use Rattle.key_names.specs.Lanes.Book.{list_at}
use Rattle.judge_log.specs.Closed.{closed}
use Rattle.judge_log.specs.Tables.{tables_of}
use Rattle.judge_log.proofs.CpuSteps.{CpuAfter}
use Rattle.judge_log.proofs.cpu_list.replay_cpu.Given as goal

abbrev pub invariant-loop-place : goal.invariant-loop-place
invariant-loop-place l = record {
  items : l.one-items ≡ list_at (tables_of l.inferred).cpus l.cpu;
  following : CpuAfter (closed (tables_of l.inferred)) l.cpu l.place l.lane.cpu l.lane.fills l.kept.items;
}
