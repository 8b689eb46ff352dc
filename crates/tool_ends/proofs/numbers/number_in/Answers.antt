use Rattle.std.proofs.Common.{◌≡◌, arith}
use Rattle.tool_ends.proofs.NumberWords.{number_read}
use Rattle.tool_ends.proofs.numbers.number_in.Goals as goal

pub returns-in_err-number-clause-only : goal.returns-in_err-number-clause-only
returns-in_err-number-clause-only c n spelt low high =
    cc (number_read c.args.most n c.args.word.now (omega arith) spelt high, c.in_err-number.ensures.value)

pub returns-then-number-from-clause-only : goal.returns-then-number-from-clause-only
returns-then-number-from-clause-only c n spelt low high =
    let same : c.in_ok-number.number ≡ n =
    cc (number_read c.args.most n c.args.word.now (omega arith) spelt high, c.in_ok-number.ensures.value) in
    absurd (omega arith)

pub returns-clause-only : goal.returns-clause-only
returns-clause-only c n spelt low high =
    cc (number_read c.args.most n c.args.word.now (omega arith) spelt high, c.in_ok-number.ensures.value)
