use Rattle.std.proofs.Common.{[]}
use Rattle.key_audit.specs.Moments.{HasMarks}
use Rattle.key_audit.proofs.moments.no_visits.Given as goal

abbrev pub invariant-loop : goal.invariant-loop
invariant-loop l = HasMarks l.counter [] l.moments
