use Rattle.std.proofs.Common.{drop, map}
use Rattle.judge_lines.specs.Called.{seen_act}
use Rattle.judge_log.specs.Tables.{Tables, tables_of}
use Rattle.judge_log.specs.Spots.{acts_spots, Changes}
use Rattle.judge_log.proofs.gather.tell_acts.Given as goal

abbrev pub invariant-loop-bound : goal.invariant-loop-bound
invariant-loop-bound l = (final : Tables) →
    Changes (acts_spots l.set (map seen_act (drop l.bound-index l.acts))) (tables_of l.inferred) final →
    Changes (acts_spots l.set (map seen_act l.acts)) (tables_of l.initial.inferred) final
