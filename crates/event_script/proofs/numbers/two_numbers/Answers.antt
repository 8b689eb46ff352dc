use Rattle.std.proofs.Common.{◌+◌, ◌∙◌, sym, arith}
use Rattle.event_script.proofs.LoneNumbers.{two_are_read, two_too_many}
use Rattle.event_script.proofs.numbers.two_numbers.Goals as goal

pub returns-in-Some-Some-clause-value : goal.returns-in-Some-Some-clause-value
returns-in-Some-Some-clause-value c = λ make.
    let is = sym c.in-Some-Some.is-0 ∙ c.number_up_to.ensures.value in
    let are = sym c.in-Some-Some.is-1 ∙ c.number_up_to-2.ensures.value in
    rw c.in-Some.is (two_are_read (c.args.most + 1) (c.args.next + 1) c.in-Some-Some.a c.in-Some-Some.b
    c.in-Some.text.now c.in-Some-cut.first.now c.in-Some-cut.second.now make (omega arith) c.in-Some-cut.ensures.parts
    is are)

pub returns-in-Some-cut-2-clause-value : goal.returns-in-Some-cut-2-clause-value
returns-in-Some-cut-2-clause-value c = λ make.
    rw (c.in-Some.is, c.in-Some-cut.ensures.parts, c.in-Some-cut-2.ensures.parts)
    (two_too_many (c.args.most + 1) (c.args.next + 1) c.in-Some-cut.first.now c.in-Some-cut-2.field-0.0.now
    c.in-Some-cut-2.field-0.1.now make)
