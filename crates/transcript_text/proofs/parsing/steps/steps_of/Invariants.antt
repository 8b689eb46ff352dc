use Rattle.std.proofs.Common.{◌≡◌, length}
use Rattle.transcript_text.proofs.StepTexts.{StepsRead}
use Rattle.transcript_text.proofs.parsing.steps.steps_of.Given as goal

abbrev pub invariant-loop : goal.invariant-loop
invariant-loop l = record {
  so_far : StepsRead l.text l.trace l.rest;
  count : length l.trace ≡ l.counter;
}
