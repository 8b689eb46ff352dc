use Rattle.std.proofs.Common.{sym, arith}
use Rattle.itoa.proofs.Decimal.{length_one}
use Rattle.transcript_text.proofs.Decimals.{digits_counted}
use Rattle.transcript_text.proofs.printing.line_buffer.count_digits.Goals as goal

pub returns-then-number-lt10-clause-count : goal.returns-then-number-lt10-clause-count
returns-then-number-lt10-clause-count c = sym (length_one c.args.number c.if-number-lt10.true)

pub returns-clause-count : goal.returns-clause-count
returns-clause-count c =
    sym (digits_counted c.ilog10.result c.args.number c.ilog10.ensures.power_le c.ilog10.ensures.next_power_gt (omega arith))
