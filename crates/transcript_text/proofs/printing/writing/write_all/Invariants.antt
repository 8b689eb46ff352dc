use Rattle.std.proofs.Common.{◌≡◌}
use Rattle.key_names.specs.Texts.TranscriptGrammar.{transcript_text}
use Rattle.transcript_text.specs.Places.{IsIn, most_pieces, text_left}
use Rattle.transcript_text.specs.Putting.{PutSoFar}
use Rattle.transcript_text.proofs.printing.writing.write_all.Given as goal

abbrev pub invariant-loop-piece : goal.invariant-loop-piece
invariant-loop-piece g l = record {
  so_far : PutSoFar (g.K.Sink.held l.fn.sink) (g.K.Sink.held l.sink) (transcript_text l.transcript)
      (text_left l.place l.transcript);
  within : IsIn l.place l.transcript;
  counted : g.K.Sink.faults l.sink ≡ g.K.Sink.faults l.fn.sink;
}

abbrev pub decreases-loop-piece : goal.decreases-loop-piece
decreases-loop-piece g l = most_pieces l.place l.transcript
