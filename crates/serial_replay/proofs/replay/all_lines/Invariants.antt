use Rattle.std.proofs.Common.{◌≡◌, ◌++◌, drop, map}
use Rattle.serial_replay.specs.Remade.{said_lists}
use Rattle.serial_replay.specs.Written.{said_into}
use Rattle.serial_replay.proofs.replay.all_lines.Given as goal

abbrev pub invariant-loop-caller : goal.invariant-loop-caller
invariant-loop-caller l =
    map (λ c. c.lines) l.callers.items ++ said_into (said_lists (drop l.caller l.said)) (drop l.caller l.steps)
    ≡ said_into (said_lists l.said) l.steps
