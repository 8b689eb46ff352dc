use Rattle.std.proofs.Common.{◌+◌, arith}
use Rattle.event_script.proofs.LoneNumbers.{one_is_read, one_too_many}
use Rattle.event_script.proofs.numbers.one_number.Goals as goal

pub returns-in-Some-number_up_to-clause-value : goal.returns-in-Some-number_up_to-clause-value
returns-in-Some-number_up_to-clause-value c = λ make.
    rw c.in-Some.is (one_is_read (c.args.most + 1) c.in-Some-number_up_to.value c.in-Some.text.now make (omega arith)
    c.in-Some-number_up_to.ensures.value)

pub returns-in-Some-cut-clause-value : goal.returns-in-Some-cut-clause-value
returns-in-Some-cut-clause-value c = λ make.
    rw (c.in-Some.is, c.in-Some-cut.ensures.parts)
    (one_too_many (c.args.most + 1) c.in-Some-cut.field-0.0.now c.in-Some-cut.field-0.1.now make)
