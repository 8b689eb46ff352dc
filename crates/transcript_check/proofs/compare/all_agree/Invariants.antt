use Rattle.std.proofs.Common.{ℕ, ◌<◌}
use Rattle.std.specs.List.{AllByRecursion}
use Rattle.key_names.specs.Lanes.Book.{list_at}
use Rattle.serial_replay.specs.Agreement.{Agrees}
use Rattle.serial_replay.specs.Remade.{said_lists}
use Rattle.transcript_check.proofs.compare.all_agree.Given as goal

abbrev pub invariant-loop-caller : goal.invariant-loop-caller
invariant-loop-caller g l = (c : ℕ) → c < l.caller →
    AllByRecursion (Agrees (λ _. g.P.Part.IsSame l.part) (list_at (said_lists l.noted) c)) (list_at l.t c)
