use Rattle.std.proofs.Common.{◌∙◌, subst}
use Rattle.std.specs.Io.KnownBytes.{Appends}
use Rattle.key_names.specs.Texts.TranscriptGrammar.{transcript_text}
use Rattle.io_edges.specs.Pieces.{AppendsPrefix}
use Rattle.transcript_text.specs.Places.{text_left}
use Rattle.transcript_text.proofs.PuttingOn.{breaks_off, piece_put, prefix_of}
use Rattle.transcript_text.proofs.printing.writing.write_all.Goals as goal

pub loop-piece-preserved : goal.loop-piece-preserved
loop-piece-preserved g c =
    let held = g.K.Sink.held in
    let t = c.args.transcript.now in
    record {
      so_far = piece_put (held c.args.sink.now) (held c.loop-piece.sink) (held c.put_all.new.sink) (transcript_text t)
          (text_left c.loop-piece.place t) c.go_on.new.piece (text_left c.go_on.new.self t) c.loop-piece.invariant.so_far
          c.go_on.ensures.text (subst (Appends (held c.loop-piece.sink) (held c.put_all.new.sink)) c.text.ensures
          c.in_ok-put_all.ensures.whole);
      within = c.go_on.ensures.within;
      counted = c.in_ok-put_all.ensures.not_counted ∙ c.loop-piece.invariant.counted;
    }

pub returns-in_err-put_all-clause-prefix : goal.returns-in_err-put_all-clause-prefix
returns-in_err-put_all-clause-prefix g c =
    let held = g.K.Sink.held in
    let t = c.args.transcript.now in
    breaks_off (held c.args.sink.now) (held c.loop-piece.sink) (held c.put_all.new.sink) (transcript_text t)
    (text_left c.loop-piece.place t) c.go_on.new.piece (text_left c.go_on.new.self t) c.loop-piece.invariant.so_far
    c.go_on.ensures.text (subst (AppendsPrefix (held c.loop-piece.sink) (held c.put_all.new.sink)) c.text.ensures
    c.put_all.ensures.prefix)

pub returns-clause-prefix : goal.returns-clause-prefix
returns-clause-prefix g c = prefix_of (g.K.Sink.held c.args.sink.now) (g.K.Sink.held c.loop-piece.sink)
    (transcript_text c.args.transcript.now) _ c.loop-piece.invariant.so_far
