use Rattle.std.proofs.Common.{◌≡◌, ◌<◌, get_or, arith}
use Rattle.std.proofs.lemmas.List.{take_rest}
use Rattle.event_script.proofs.NumberFronts.{no_digits, leading_zero, number_is_front, too_large}
use Rattle.event_script.proofs.numbers.cut_number.Goals as goal
use Rattle.event_script.proofs.numbers.cut_number.Goals.{else-len-gt1-via-then-len-gt1+else-text-eq48, else-len-gt1-via-else-len-gt1}

pub returns-then-len-eq0-clause-front : goal.returns-then-len-eq0-clause-front
returns-then-len-eq0-clause-front c =
    no_digits c.args.most c.args.text.now _ _ (omega arith) c.requires c.if-len-eq0.true

pub returns-then-text-eq48-clause-front : goal.returns-then-text-eq48-clause-front
returns-then-text-eq48-clause-front c =
    leading_zero c.args.most c.args.text.now _ _ (omega arith) c.requires c.if-len-gt1.true c.if-text-eq48.true

pub returns-then-value-most-clause-front : goal.returns-then-value-most-clause-front
returns-then-value-most-clause-front c =
    too_large c.args.text.now _ _ c.requires.begins c.args.most (omega arith) c.if-value-most.true

pub returns-clause-front : goal.returns-clause-front
returns-clause-front c =
    let lead : 1 < c.args.len → get_or c.args.text.now 0 0 ≡ 48 → ⊥ = λ long first.
    elim c.else-len-gt1.branch [
      | else-len-gt1-via-then-len-gt1+else-text-eq48 w ↦ w.if-text-eq48.false first
      | else-len-gt1-via-else-len-gt1 w ↦ omega (arith, w.if-len-gt1.false)
    ] in
    rw take_rest (number_is_front c.args.most c.args.text.now _ _ (omega arith) c.requires (omega arith) lead
    (omega arith))
