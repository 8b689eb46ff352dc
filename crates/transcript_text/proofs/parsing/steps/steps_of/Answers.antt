use Rattle.std.proofs.Common.{ℕ, List, ◌++◌, length, get_or, ap, ◌∙◌, append-nil, arith}
use Rattle.std.proofs.lemmas.List.{nil_from_length}
use Rattle.std.specs.Option.{option_map}
use Rattle.key_names.specs.Texts.TranscriptGrammar.{step_text, steps_text}
use Rattle.transcript_text.specs.Reading.{StepsFit}
use Rattle.transcript_text.proofs.Answered.{reads_none}
use Rattle.transcript_text.proofs.Fronts.{no_next_front, no_comma}
use Rattle.transcript_text.proofs.StepTexts.{reads_none_at_all, reads_last, too_many}
use Rattle.transcript_text.proofs.parsing.steps.steps_of.Goals as goal

pub returns-then-is_dash : goal.returns-then-is_dash
returns-then-is_dash c =
    reads_none_at_all c.args.text.now c.steps.result.now (c.steps.ensures.steps ∙ c.clear.ensures)
    (c.is_dash.ensures.0 c.if-is_dash.true)

pub returns-in_err-step : goal.returns-in_err-step
returns-in_err-step c =
    reads_none steps_text StepsFit c.args.text.now _ (ap (option_map (λ steps. steps.now)) c.from_residual.ensures)
    (no_next_front c.args.text.now c.loop.rest.now c.loop.trace c.loop.invariant.so_far c.in_err-step.ensures)

pub returns-in-empty : goal.returns-in-empty
returns-in-empty c =
    let none = nil_from_length c.in_ok-step.following.now (omega (arith, c.in-empty.len_below)) in
    reads_last c.args.text.now c.loop.rest.now c.loop.trace c.steps-in-empty.result.now c.in_ok-step.step
    c.loop.invariant.so_far c.in_ok-step.ensures.fits
    (c.in_ok-step.ensures.whole ∙ ap (λ (x : List ℕ). step_text c.in_ok-step.step ++ x) none
    ∙ append-nil (step_text c.in_ok-step.step))
    (c.steps-in-empty.ensures.steps ∙ c.push.ensures)
    (omega (arith, c.loop.invariant.count, c.loop-test.true))

pub returns-in_default : goal.returns-in_default
returns-in_default c =
    no_comma c.args.text.now c.loop.rest.now c.loop.trace c.loop.invariant.so_far c.in_ok-step.step
    c.in_ok-step.following.now c.in_ok-step.ensures
    (λ none. omega (arith, ap length none, c.in_default.len_at_least))
    (λ rest comma. omega (arith, ap (λ (t : List ℕ). get_or t 0 0) comma))

pub returns : goal.returns
returns c = too_many c.args.text.now c.loop.rest.now c.loop.trace c.loop.invariant.so_far
    (omega (arith, c.loop.invariant.count, c.loop-test.false))
