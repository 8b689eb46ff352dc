use Rattle.std.proofs.Common.{◌++◌, refl}
use Rattle.transcript_text.proofs.FeedingOn.{piece_begins, rest_kept}
use Rattle.transcript_text.proofs.parsing.reader.TranscriptReader.feed.Goals as goal

pub loop-end-init : goal.loop-end-init
loop-end-init c = record {
  fed = λ text fed. piece_begins text c.args.piece.now c.args.self.now fed;
  most = refl;
}

pub returns-clause-fed : goal.returns-clause-fed
returns-clause-fed c = λ text fed.
    rest_kept (text ++ c.args.piece.now) c.loop-end.unread.now c.loop-end.self _ (c.loop-end.invariant.fed text fed)
    c.in_default.ensures refl c.in_ok-extend_from_slice.ensures.items
