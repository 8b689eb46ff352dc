use Rattle.std.proofs.Common.{drop, map, length}
use Rattle.judge_lines.specs.Called.{seen_call}
use Rattle.judge_log.specs.Tables.{Tables, tables_of}
use Rattle.judge_log.specs.Spots.{calls_spots, Changes}
use Rattle.judge_log.proofs.gather.tell_calls.Given as goal

abbrev pub invariant-loop-call : goal.invariant-loop-call
invariant-loop-call l = (final : Tables) →
    Changes (calls_spots (map seen_call (drop (length l.yielded) l.calls)) (drop (length l.yielded) l.settings))
    (tables_of l.inferred) final →
    Changes (calls_spots (map seen_call l.calls) l.settings) (tables_of l.initial.inferred) final
