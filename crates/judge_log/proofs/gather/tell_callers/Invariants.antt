use Rattle.std.proofs.Common.{drop, map, length}
use Rattle.judge_lines.specs.Called.{seen_calls}
use Rattle.judge_log.specs.Tables.{Tables, tables_of}
use Rattle.judge_log.specs.Spots.{callers_spots, Changes}
use Rattle.judge_log.proofs.gather.tell_callers.Given as goal

abbrev pub invariant-loop-calls : goal.invariant-loop-calls
invariant-loop-calls l = (final : Tables) →
    Changes (callers_spots (seen_calls (drop (length l.yielded) l.callers))
    (map (λ sets. sets.items) (drop (length l.yielded) l.settings))) (tables_of l.inferred) final →
    Changes (callers_spots (seen_calls l.callers) (map (λ sets. sets.items) l.settings)) (tables_of l.initial.inferred) final
