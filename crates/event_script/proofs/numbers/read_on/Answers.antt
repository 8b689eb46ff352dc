use Rattle.std.proofs.Common.{◌≡◌, ◌∙◌, arith}
use Rattle.event_script.proofs.NumberFronts.{digit_more, few_digits}
use Rattle.event_script.proofs.numbers.read_on.Goals as goal

pub overflow_mul-value : goal.overflow_mul-value
overflow_mul-value c =
    let few = few_digits c.args.text.now _ _ c.loop-len.invariant (omega arith) in
    omega arith

pub overflow_add-value : goal.overflow_add-value
overflow_add-value c =
    let few = few_digits c.args.text.now _ _ c.loop-len.invariant (omega arith) in
    let digit = c.in-Some.ensures.value.0 in
    omega (arith, c.in-Some.ensures.value.1)

pub loop-len-preserved : goal.loop-len-preserved
loop-len-preserved c =
    digit_more c.args.text.now _ _ c.loop-len.invariant _ _ (omega arith) c.from.ensures
    (c.in-Some.ensures.value.0, c.from-in-loop-len.ensures ∙ c.in-Some.ensures.value.1)

pub long_number-requires-clause-digits : goal.long_number-requires-clause-digits
long_number-requires-clause-digits c =
    let is : c.loop-len.len ≡ 19 = omega arith in
    rw is at c.loop-len.invariant
