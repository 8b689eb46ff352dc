use Rattle.std.proofs.Common.{drop}
use Rattle.std.specs.Prelude.{◌↔◌}
use Rattle.std.specs.List.{AllByRecursion}
use Rattle.serial_replay.specs.Agreement.{Agrees}
use Rattle.transcript_check.proofs.compare.lines_agree.Given as goal

abbrev pub invariant-loop-number : goal.invariant-loop-number
invariant-loop-number g l =
    AllByRecursion (Agrees (λ _. g.P.Part.IsSame l.part) l.noted) l.lines.lines
    ↔ AllByRecursion (Agrees (λ _. g.P.Part.IsSame l.part) l.noted) (drop l.number l.lines.lines)
