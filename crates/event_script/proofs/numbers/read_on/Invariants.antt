use Rattle.event_script.specs.ValueFronts.{BeginsDigits}
use Rattle.event_script.proofs.numbers.read_on.Given as goal

abbrev pub invariant-loop-len : goal.invariant-loop-len
invariant-loop-len l = BeginsDigits l.text l.value l.len
