use Rattle.std.proofs.Common.{◌≡◌, ◌+◌, ◌-◌, arith}
use Rattle.event_script.proofs.numbers.one_below.Goals as goal

pub returns-clause-value : goal.returns-clause-value
returns-clause-value c = λ make.
    let most : c.from.result - 1 + 1 ≡ c.args.limit = omega arith in rw most at (c.in_ok-value.ensures.value make)
