use Rattle.std.proofs.Common.{◌≡◌, ◌++◌, ℕ, List, length}
use Rattle.transcript_text.specs.Feeding.{HasFed, IsAfter, most_lines}
use Rattle.transcript_text.proofs.parsing.reader.TranscriptReader.feed.Given as goal

abbrev pub invariant-loop-end : goal.invariant-loop-end
invariant-loop-end l = record {
  fed : (text : List ℕ) → HasFed text l.fn.self → IsAfter (text ++ l.piece) l.self l.unread;
  most : most_lines l.self ≡ most_lines l.fn.self;
}

abbrev pub decreases-loop-end : goal.decreases-loop-end
decreases-loop-end l = length l.unread
