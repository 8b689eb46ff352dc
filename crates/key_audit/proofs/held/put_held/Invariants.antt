use Rattle.std.proofs.Common.{◌≡◌, ◌++◌, drop}
use Rattle.key_audit.specs.Live.{held_lines}
use Rattle.key_audit.proofs.held.put_held.Given as goal

abbrev pub invariant-loop-number : goal.invariant-loop-number
invariant-loop-number l =
    l.text.bytes.items ++ held_lines l.moments l.rows (drop l.number-index l.numbers)
    ≡ l.initial.text.bytes.items ++ held_lines l.moments l.rows l.numbers
