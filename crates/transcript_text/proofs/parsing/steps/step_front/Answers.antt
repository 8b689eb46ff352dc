use Rattle.std.proofs.Common.{ℕ, List, get_or, ap, arith}
use Rattle.std.proofs.lemmas.List.{nil_from_length}
use Rattle.transcript_text.proofs.Answered.{matched_none}
use Rattle.transcript_text.proofs.Fronts.{look_front, no_look_front, visit_front, no_visit_front, no_empty_front}
use Rattle.transcript_text.proofs.StepTexts.{begins_so}
use Rattle.transcript_text.proofs.parsing.steps.step_front.Goals as goal

pub returns-in_err-generation-in-126 : goal.returns-in_err-generation-in-126
returns-in_err-generation-in-126 c = matched_none _ _ _ c.from_residual.ensures
    (no_look_front c.args.text.now _ (begins_so 126 c.args.text.now (omega arith) (omega arith))
    c.in_err-generation-in-126.ensures.front)

pub returns-in_ok-generation-in-126 : goal.returns-in_ok-generation-in-126
returns-in_ok-generation-in-126 c =
    look_front c.args.text.now _ _ _ (begins_so 126 c.args.text.now (omega arith) (omega arith))
    c.in_ok-generation-in-126.ensures.front

pub returns-in-empty : goal.returns-in-empty
returns-in-empty c =
    let none = nil_from_length c.args.text.now (omega (arith, c.in-empty.len_below)) in
    no_empty_front c.args.text.now none

pub returns-in_err-mark-in_default : goal.returns-in_err-mark-in_default
returns-in_err-mark-in_default c = matched_none _ _ _ c.from_residual-in_err-mark-in_default.ensures
    (no_visit_front c.args.text.now (λ rest e. omega (arith, ap (λ (t : List ℕ). get_or t 0 0) e))
    c.in_err-mark-in_default.ensures)

pub returns-in_ok-mark-in_default : goal.returns-in_ok-mark-in_default
returns-in_ok-mark-in_default c =
    visit_front c.args.text.now _ _ (λ rest e. omega (arith, ap (λ (t : List ℕ). get_or t 0 0) e))
    c.in_ok-mark-in_default.ensures
