use Rattle.std.proofs.Common.{◌≡◌, ◌-◌, ◌∷◌, [], ◌++◌, map, ap, sym, ◌∙◌, arith}
use Rattle.std.specs.List.{range_with_len}
use Rattle.key_names.specs.declared.events.Event.TheVariants.{Add, Fork}
use Rattle.event_script.proofs.LoadSteps.{one_more_fork}
use Rattle.event_script.proofs.load.opening.Goals as goal

pub loop-child-preserved : goal.loop-child-preserved
loop-child-preserved c =
    let child = c.loop-child.child in (
      c.in_ok-push-2.ensures.items ∙ ap (λ es. es ++ Fork child ∷ []) c.loop-child.invariant.0
          ∙ ap (λ es. Add (range_with_len 0 32) 256 ∷ es) (sym (one_more_fork child c.loop-child.auto.child)),
      omega (arith, c.loop-child-test.true),
    )

pub returns : goal.returns
returns c =
    let first : c.args.caller ≡ 0 = omega (arith, c.if-caller-ne0.false) in
    let last : c.loop-child.child - 1 ≡ c.args.callers - 1 =
    omega (arith, c.loop-child.invariant.1, c.loop-child.auto.child, c.loop-child-test.false) in
    rw first
    (c.loop-child.invariant.0 ∙ ap (λ n. Add (range_with_len 0 32) 256 ∷ map Fork (range_with_len 1 n)) last)
