use Rattle.std.proofs.Common.{[], sym, arith}
use Rattle.std.proofs.lemmas.Bool.{eqb-true}
use Rattle.std.proofs.lemmas.List.{nil_from_length}
use Rattle.event_script.proofs.NumberFronts.{no_whole_number, whole_number}
use Rattle.event_script.proofs.numbers.number_up_to.Goals as goal

pub returns-in-Some-clause-value : goal.returns-in-Some-clause-value
returns-in-Some-clause-value c =
    whole_number c.args.most _ c.args.field.now _ (omega arith) c.in-Some.ensures.front
    (nil_from_length c.in-Some.rest.now (eqb-true _ _ (sym c.if-is_empty.ensures)))

pub returns-in_default-clause-value : goal.returns-in_default-clause-value
returns-in_default-clause-value c = no_whole_number c.args.most c.args.field.now (omega arith) (λ n small e.
    let none = (c.in-Some.ensures.front.only n [] small tt e).1 in
    let some = rw none at c.if-is_empty.ensures in
    absurd cc)

pub returns-in_default-2-clause-value : goal.returns-in_default-2-clause-value
returns-in_default-2-clause-value c = no_whole_number c.args.most c.args.field.now (omega arith) (λ n small e.
    (rw c.in_default.is at c.number_front.ensures.front) n [] small tt e)
