use Rattle.std.proofs.Common.{◌≡◌, ◌++◌, drop}
use Rattle.key_audit.specs.Edges.{edges_of}
use Rattle.key_audit.proofs.edges.edges_of.Given as goal

abbrev pub invariant-loop-row : goal.invariant-loop-row
invariant-loop-row l = l.edges.items ++ edges_of (drop l.row-index l.rows) ≡ edges_of l.rows
