use Rattle.std.proofs.Common.{◌≡◌, ◌+◌, ◌*◌, refl, arith}
use Rattle.std.proofs.Math.Nat.{lt_of_not-le}
use Rattle.std.proofs.lemmas.List.{take_rest}
use Rattle.event_script.proofs.NumberFronts.{digit_more, too_large, twenty_digits}
use Rattle.event_script.proofs.numbers.long_number.Goals as goal

pub returns-in_err-tens-clause-front : goal.returns-in_err-tens-clause-front
returns-in_err-tens-clause-front c =
    let large = lt_of_not-le c.in_err-tens.ensures in
    let more = digit_more c.args.text.now _ 19 c.requires.digits _ _ c.requires.longer c.from.ensures
    c.in-Some.ensures.value in
    rw c.from_residual.ensures (too_large c.args.text.now _ _ more c.args.most (omega arith) (omega arith))

pub returns-in_err-next-clause-front : goal.returns-in_err-next-clause-front
returns-in_err-next-clause-front c =
    let large = lt_of_not-le c.in_err-next.ensures in
    let tens = c.in_ok-tens.ensures.1 in
    let more = digit_more c.args.text.now _ 19 c.requires.digits _ _ c.requires.longer c.from.ensures
    c.in-Some.ensures.value in
    rw c.from_residual-in_err-next.ensures (too_large c.args.text.now _ _ more c.args.most (omega arith) (omega arith))

pub returns-then-not-ends_number-clause-front : goal.returns-then-not-ends_number-clause-front
returns-then-not-ends_number-clause-front c = λ n other small after e.
    let more = digit_more c.args.text.now _ 19 c.requires.digits _ _ c.requires.longer c.from.ensures
    c.in-Some.ensures.value in
    let ends = twenty_digits c.args.text.now _ _ more (omega arith) n other (omega arith) after e in
    let not = c.if-not-ends_number.ensures.1 (rw take_rest ends) in
    absurd cc

pub cut_number-requires-2 : goal.cut_number-requires-2
cut_number-requires-2 c =
    let more = digit_more c.args.text.now _ 19 c.requires.digits _ _ c.requires.longer c.from.ensures
    c.in-Some.ensures.value in
    let tens = c.in_ok-tens.ensures.1 in
    let sum = c.in_ok-next.ensures.1 in
    let next : c.args.value * 10 + c.in-Some.digit ≡ c.in_ok-next.next = omega arith in
    record { begins = rw next at more; ends = rw take_rest at (c.if-not-ends_number.ensures.0 refl) }
