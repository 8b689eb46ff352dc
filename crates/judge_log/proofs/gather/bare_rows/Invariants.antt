use Rattle.std.proofs.Common.{◌≡◌, ◌+◌, length, map, drop}
use Rattle.key_names.specs.declared.names.LaneId.{LaneId}
use Rattle.key_names.specs.Transcripts.IsTranscript.{lane_marks}
use Rattle.judge_lines.specs.Marks.{seen_mark}
use Rattle.judge_log.specs.Tables.{tables_of}
use Rattle.judge_log.specs.Spots.{rows_in}
use Rattle.judge_log.proofs.gather.bare_rows.Given as goal

abbrev pub invariant-loop-of : goal.invariant-loop-of
invariant-loop-of l = record {
  count : length l.inferred.cpus.items ≡ l.cpus;
  rows : (lane : LaneId) → rows_in (tables_of l.inferred) lane + length (lane_marks lane (map seen_mark (drop l.of-index l.marks)))
      ≡ length (lane_marks lane (map seen_mark l.marks));
}
