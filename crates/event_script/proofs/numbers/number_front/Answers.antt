use Rattle.std.proofs.Common.{◌≡◌, ◌∙◌, arith}
use Rattle.std.proofs.lemmas.List.{get_or-take, length-take}
use Rattle.event_script.proofs.NumberFronts.{digit_more, digits_end, few_digits}
use Rattle.event_script.proofs.numbers.number_front.Goals as goal

pub overflow_mul-value : goal.overflow_mul-value
overflow_mul-value c =
    let long = length-take 8 c.args.text.now in
    let few = few_digits c.args.text.now _ _ c.loop-len.invariant (omega arith) in
    omega arith

pub overflow_add-value : goal.overflow_add-value
overflow_add-value c =
    let long = length-take 8 c.args.text.now in
    let few = few_digits c.args.text.now _ _ c.loop-len.invariant (omega arith) in
    let digit = c.in-Some.ensures.value.0 in
    omega (arith, c.in-Some.ensures.value.1)

pub loop-len-preserved : goal.loop-len-preserved
loop-len-preserved c =
    let long = length-take 8 c.args.text.now in
    let there = get_or-take 8 c.args.text.now c.loop-len.len 0 (omega arith) in
    digit_more c.args.text.now _ _ c.loop-len.invariant _ _ (omega arith) (c.from.ensures ∙ there)
    (c.in-Some.ensures.value.0, c.from-in-loop-len.ensures ∙ c.in-Some.ensures.value.1)

pub read_on_apart-requires-2-clause-digits : goal.read_on_apart-requires-2-clause-digits
read_on_apart-requires-2-clause-digits c =
    let long = length-take 8 c.args.text.now in
    let is : c.loop-len.len ≡ 8 = omega arith in
    rw is at c.loop-len.invariant

pub cut_number-requires : goal.cut_number-requires
cut_number-requires c =
    let long = length-take 8 c.args.text.now in
    let there = get_or-take 8 c.args.text.now c.loop-len.len 0 (omega arith) in
    digits_end c.args.text.now _ _ c.loop-len.invariant (omega arith) (λ digit.
    c.in_default.ensures.value (rw (c.from.ensures, there) digit))
