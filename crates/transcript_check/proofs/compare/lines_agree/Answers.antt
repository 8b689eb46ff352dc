use Rattle.std.proofs.Common.{refl}
use Rattle.transcript_text.specs.Views.{seen}
use Rattle.serial_replay.specs.Agreement.{Agrees}
use Rattle.transcript_check.proofs.LinesAgree.{one_more}
use Rattle.transcript_check.proofs.compare.lines_agree.Goals as goal

pub loop-number-preserved : goal.loop-number-preserved
loop-number-preserved g c =
    one_more (Agrees (λ _. g.P.Part.IsSame c.args.part.now) c.args.noted.now) c.args.lines.now.lines c.loop-number.number
    (seen c.line.result) c.line.ensures.line (c.if-not-agrees.ensures.0 refl) c.loop-number.invariant
