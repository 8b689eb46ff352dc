use Rattle.std.proofs.Common.{ap, length, arith, ◌≡◌}
use Rattle.std.specs.Prelude.{vec_len}
use Rattle.transcript_text.proofs.FeedingOn.{cut_at_head, cut_at_line, goes_on_past, is_faulty}
use Rattle.transcript_text.proofs.parsing.reader.TranscriptReader.finish.Goals as goal

pub returns-in-Head : goal.returns-in-Head
returns-in-Head c = λ text fed. cut_at_head text c.args.self fed c.in-Head.is

pub returns-in-Lines : goal.returns-in-Lines
returns-in-Lines c = λ text fed. cut_at_line text c.args.self fed c.in-Lines.is

pub returns-in-Ended-2 : goal.returns-in-Ended-2
returns-in-Ended-2 c = λ text fed. goes_on_past text c.args.self fed c.in-Ended.is (λ e.
    let none : vec_len c.args.self.rest ≡ 0 = omega (arith, c.args.self.rest.ok.0, ap length e) in
    let no = rw none at c.if-is_empty.ensures in absurd cc)

pub returns-in-Faulty : goal.returns-in-Faulty
returns-in-Faulty c = λ text fed. is_faulty text c.args.self c.in-Faulty.line fed c.in-Faulty.is
