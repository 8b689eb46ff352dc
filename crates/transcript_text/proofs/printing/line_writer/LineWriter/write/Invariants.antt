use Rattle.std.proofs.Common.{◌≡◌, ◌≤◌, ◌++◌, codes, length}
use Rattle.key_names.specs.Transcripts.SeenLine.{bytes_in}
use Rattle.transcript_text.specs.Lines.{whole_line}
use Rattle.transcript_text.specs.Places.{data_left}
use Rattle.transcript_text.specs.Putting.{PutSoFar}
use Rattle.transcript_text.specs.Views.{seen, seen_shown}
use Rattle.transcript_text.proofs.printing.line_writer.LineWriter.write.Given as goal

abbrev pub invariant-loop-place : goal.invariant-loop-place
invariant-loop-place g l = record {
  so_far : PutSoFar (g.K.Sink.held l.fn.sink) (g.K.Sink.held l.sink) (whole_line (seen l.line))
      ((l.self.piece ++ data_left l.place.shown (seen_shown l.line.shown)) ++ codes "\n");
  within : l.place.shown ≤ length (bytes_in (seen_shown l.line.shown));
  room : length l.self.piece ≤ 2048;
  counted : g.K.Sink.faults l.sink ≡ g.K.Sink.faults l.fn.sink;
}

abbrev pub decreases-loop-place : goal.decreases-loop-place
decreases-loop-place g l = length (data_left l.place.shown (seen_shown l.line.shown))
