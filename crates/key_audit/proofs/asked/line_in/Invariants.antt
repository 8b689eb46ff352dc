use Rattle.std.proofs.Common.{◌≡◌, drop}
use Rattle.key_audit.specs.Asked.{line_in}
use Rattle.key_audit.proofs.asked.line_in.Given as goal

abbrev pub invariant-loop-line : goal.invariant-loop-line
invariant-loop-line l = line_in l.event (drop l.line-index l.lines) ≡ line_in l.event l.lines
