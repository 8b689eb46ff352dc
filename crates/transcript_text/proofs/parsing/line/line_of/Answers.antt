use Rattle.transcript_text.proofs.Answered.{matched_none}
use Rattle.transcript_text.proofs.LineTexts.{line_splits, spells_line, is_read, numbers_in, numbers_fit}
use Rattle.transcript_text.proofs.parsing.line.line_of.Goals as goal

pub returns-in_err-fields : goal.returns-in_err-fields
returns-in_err-fields c = matched_none _ _ _ c.from_residual.ensures
    (λ line fits e. c.in_err-fields.ensures _ _ _ _ _ (line_splits c.args.text.now line fits e))

pub returns-in_err-numbers : goal.returns-in_err-numbers
returns-in_err-numbers c = matched_none _ _ _ c.from_residual-in_err-numbers.ensures (λ line fits e.
    c.in_err-numbers.ensures (numbers_in line) (numbers_fit line fits)
    (spells_line c.args.text.now _ _ _ _ _ c.in_ok-fields.ensures line fits e).first)

pub returns-in_err-word_of : goal.returns-in_err-word_of
returns-in_err-word_of c = matched_none _ _ _ c.from_residual-in_err-word_of.ensures (λ line fits e.
    c.in_err-word_of.ensures line.word tt
    (spells_line c.args.text.now _ _ _ _ _ c.in_ok-fields.ensures line fits e).second)

pub returns-in_err-answer_of : goal.returns-in_err-answer_of
returns-in_err-answer_of c = matched_none _ _ _ c.from_residual-in_err-answer_of.ensures (λ line fits e.
    c.in_err-answer_of.ensures line.answer tt
    (spells_line c.args.text.now _ _ _ _ _ c.in_ok-fields.ensures line fits e).third)

pub returns-in_err-steps_of : goal.returns-in_err-steps_of
returns-in_err-steps_of c = matched_none _ _ _ c.from_residual-in_err-steps_of.ensures (λ line fits e.
    c.in_err-steps_of.ensures line.steps (record { few = fits.few_steps; each = fits.steps })
    (spells_line c.args.text.now _ _ _ _ _ c.in_ok-fields.ensures line fits e).fourth)

pub returns : goal.returns
returns c =
    is_read c.args.text.now _ _ _ _
    (record {
      caller = c.in_ok-numbers.numbers.caller;
      event = c.in_ok-numbers.numbers.event;
      word = c.in_ok-word_of.field-0;
      answer = c.in_ok-answer_of.field-0;
      steps = c.in_ok-steps_of.field-0;
      shown = c.in_ok-fields.fields.shown;
    })
    c.in_ok-fields.ensures c.in_ok-numbers.ensures.1 c.in_ok-numbers.ensures.0 c.in_ok-word_of.ensures.1
    c.in_ok-answer_of.ensures.1 c.in_ok-steps_of.ensures.1 c.in_ok-steps_of.ensures.0
