use Rattle.std.proofs.Common.{rules, List, ◌++◌, length, map, refl, sym, ap, ◌∙◌, append-nil}
use Rattle.judge_lines.specs.declared.order.Fork.{Fork}
use Rattle.judge_lines.specs.Called.{seen_call}
use Rattle.judge_lines.specs.Orders.{forks_in}
use Rattle.judge_lines.proofs.Fronts.{all_done}
use Rattle.judge_lines.proofs.OwnSteps.{forks_next, no_forks}
use Rattle.judge_lines.proofs.order.push_forks.Goals as goal

pub returns-then-not-has_fork : goal.returns-then-not-has_fork
returns-then-not-has_fork c =
    sym (append-nil c.args.forks.now.items)
    ∙ ap (λ (fs : List Fork). c.args.forks.now.items ++ fs)
    (sym (no_forks c.args.caller 0 0 c.args.calls.now (sym c.if-not-has_fork.ensures ∙ refl)))

pub loop-number-preserved : goal.loop-number-preserved
loop-number-preserved c = rw (c.in_ok-push_fork.ensures, c.in_ok-push_call.ensures)
    (forks_next c.args.caller c.loop-number.number c.len.result c.args.calls.now c.index-calls-number.result
    c.loop-number.own.items c.loop-number.forks.items _ c.loop-number-test.true c.index-calls-number.is
    (search rules) c.loop-number.invariant)

pub returns : goal.returns
returns c =
    all_done (λ xs. forks_in c.args.caller c.loop-number.number (length c.loop-number.own.items) (map seen_call xs))
    c.args.calls.now c.loop-number.number c.loop-number.forks.items _ c.loop-number-test.false refl
    c.loop-number.invariant
