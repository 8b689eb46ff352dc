use Rattle.std.proofs.Common.{◌≡◌, ℕ, ◌<◌, get_or}
use Rattle.key_names.specs.declared.events.Answer.TheVariants.{Idle}
use Rattle.key_names.specs.Texts.TranscriptGrammar.{answer_text}
use Rattle.transcript_text.proofs.parsing.names.answer_of.Given as goal

abbrev pub invariant-loop-answer : goal.invariant-loop-answer
invariant-loop-answer l = (k : ℕ) → k < l.answer-index → l.text ≡ answer_text (get_or l.answer-items k Idle) → ⊥
