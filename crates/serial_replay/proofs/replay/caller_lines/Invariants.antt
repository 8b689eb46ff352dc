use Rattle.std.proofs.Common.{◌≡◌, ◌++◌, drop}
use Rattle.std.specs.List.{AllByRecursion}
use Rattle.serial_replay.specs.Agreement.{Agrees}
use Rattle.serial_replay.specs.Written.{lines_said, MayShow}
use Rattle.serial_replay.proofs.replay.caller_lines.Given as goal

abbrev pub invariant-loop-number : goal.invariant-loop-number
invariant-loop-number l = record {
  inferred : l.inferred.lines ++ lines_said l.said (drop l.number l.lines.lines) ≡ lines_said l.said l.lines.lines;
  agree : AllByRecursion (Agrees MayShow l.said) (drop l.number l.lines.lines);
}
