use Rattle.transcript_text.proofs.Answered.{matched_none}
use Rattle.transcript_text.proofs.LineTexts.{uncut_first, uncut_second, uncut_third, uncut_fourth}
use Rattle.transcript_text.proofs.parsing.line.fields_of.Goals as goal

pub returns-in_err-numbers : goal.returns-in_err-numbers
returns-in_err-numbers c = matched_none _ _ _ c.from_residual.ensures
    (uncut_first c.args.line.now c.in_err-numbers.ensures)

pub returns-in_err-word : goal.returns-in_err-word
returns-in_err-word c =
    matched_none _ _ _ c.from_residual-in_err-word.ensures
    (uncut_second c.args.line.now c.in_ok-numbers.numbers.now c.in_ok-numbers.rest.now c.in_ok-numbers.ensures.0
    c.in_ok-numbers.ensures.1 c.in_err-word.ensures)

pub returns-in_err-answer : goal.returns-in_err-answer
returns-in_err-answer c =
    matched_none _ _ _ c.from_residual-in_err-answer.ensures
    (uncut_third c.args.line.now c.in_ok-numbers.numbers.now c.in_ok-numbers.rest.now c.in_ok-word.word.now
    c.in_ok-word.rest.now
    c.in_ok-numbers.ensures.0 c.in_ok-numbers.ensures.1 c.in_ok-word.ensures.0 c.in_ok-word.ensures.1
    c.in_err-answer.ensures)

pub returns-in_err-steps : goal.returns-in_err-steps
returns-in_err-steps c =
    matched_none _ _ _ c.from_residual-in_err-steps.ensures
    (uncut_fourth c.args.line.now c.in_ok-numbers.numbers.now c.in_ok-numbers.rest.now c.in_ok-word.word.now
    c.in_ok-word.rest.now c.in_ok-answer.answer.now c.in_ok-answer.rest.now
    c.in_ok-numbers.ensures.0 c.in_ok-numbers.ensures.1 c.in_ok-word.ensures.0 c.in_ok-word.ensures.1
    c.in_ok-answer.ensures.0 c.in_ok-answer.ensures.1 c.in_err-steps.ensures)
