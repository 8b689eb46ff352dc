use Rattle.std.proofs.Common.{◌≡◌, ◌++◌, drop}
use Rattle.key_audit.specs.Reach.{copied_lines, lines_after}
use Rattle.key_audit.proofs.reach.put_lines.Given as goal

abbrev pub invariant-loop-one : goal.invariant-loop-one
invariant-loop-one l =
    l.text.bytes.items ++ lines_after l.last (drop l.one-index l.all)
    ≡ l.initial.text.bytes.items ++ copied_lines l.all
