use Rattle.std.proofs.Common.{◌∙◌}
use Rattle.transcript_text.proofs.FeedingOn.{line_ends}
use Rattle.transcript_text.proofs.parsing.reader.TranscriptReader.end_line.Goals as goal

pub returns-clause-fed : goal.returns-clause-fed
returns-clause-fed c = λ text following clean at.
    line_ends text following c.args.end.now c.deref.result.now c.args.self.now _ at clean
    (c.deref.ensures.value ∙ c.in_ok-extend_from_slice.ensures.items) c.clear.ensures.items
    c.in_ok-take.ensures.lines (λ lack conforms. c.in_ok-take.ensures.conforms text following lack conforms)
