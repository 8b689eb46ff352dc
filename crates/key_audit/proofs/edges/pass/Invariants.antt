use Rattle.key_audit.proofs.Passes.{PassedTo}
use Rattle.key_audit.proofs.edges.pass.Given as goal

abbrev pub invariant-loop-edge : goal.invariant-loop-edge
invariant-loop-edge l = PassedTo l.edges l.edge-index l.initial.known l.known l.more
