use Rattle.std.proofs.Common.{arith}
use Rattle.transcript_text.proofs.LineTexts.{same_caller}
use Rattle.transcript_text.proofs.parsing.taking.line_from.Goals as goal

pub returns-then-read-ge-MOST_CALLERS : goal.returns-then-read-ge-MOST_CALLERS
returns-then-read-ge-MOST_CALLERS c = λ line fits low high e.
    let same = same_caller c.args.text.now c.in_ok-read.read c.in_ok-read.ensures line fits e in
    omega (arith, same, high, c.if-read-ge-MOST_CALLERS.true)

pub returns-then-read-least : goal.returns-then-read-least
returns-then-read-least c = λ line fits low high e.
    let same = same_caller c.args.text.now c.in_ok-read.read c.in_ok-read.ensures line fits e in
    omega (arith, same, low, c.if-read-least.true)
