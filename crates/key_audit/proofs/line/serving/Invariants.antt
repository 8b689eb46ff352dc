use Rattle.std.proofs.Common.{◌≡◌, ◌++◌, drop}
use Rattle.key_audit.specs.Sources.{serving}
use Rattle.key_audit.proofs.line.serving.Given as goal

abbrev pub invariant-loop-row : goal.invariant-loop-row
invariant-loop-row l = l.keys.items ++ serving l.moments l.line (drop l.row-index l.rows) ≡ serving l.moments l.line l.rows
