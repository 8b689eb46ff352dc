use Rattle.std.proofs.Common.{drop}
use Rattle.judge_log.specs.Tables.{Tables, tables_of}
use Rattle.judge_log.specs.Spots.{tells_by, spots_from, line_spots, Changes}
use Rattle.judge_log.proofs.gather.tell_line.Given as goal

abbrev pub invariant-loop-number : goal.invariant-loop-number
invariant-loop-number l = (final : Tables) →
    Changes (spots_from l.set (tells_by l.set l.line_kind) l.first l.second_before l.before (drop l.number l.steps))
    (tables_of l.inferred) final →
    Changes (line_spots l.set (tells_by l.set l.line_kind) l.steps) (tables_of l.initial.inferred) final
