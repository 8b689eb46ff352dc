use Rattle.std.proofs.Common.{◌≡◌, ◌∷◌, ◌+◌, ◌*◌, ◌≤◌, ◌++◌, length, drop}
use Rattle.key_names.specs.Texts.TranscriptGrammar.{steps_text}
use Rattle.transcript_text.proofs.StepLists.{steps_after}
use Rattle.transcript_text.proofs.parsing.head.append_steps.Given as goal

abbrev pub invariant-loop-step : goal.invariant-loop-step
invariant-loop-step l = record {
  text : l.piece ++ steps_after l.before (drop l.step-index l.steps) ≡ l.fn.piece ++ 32 ∷ steps_text l.steps;
  short : length l.piece ≤ length l.fn.piece + 64 * l.step-index;
}
