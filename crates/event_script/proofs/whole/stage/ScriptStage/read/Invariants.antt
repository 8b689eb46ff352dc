use Rattle.std.proofs.Common.{length}
use Rattle.event_script.specs.Feeding.{LeadsTo}
use Rattle.event_script.proofs.whole.stage.ScriptStage.read.Given as goal

abbrev pub invariant-loop-left : goal.invariant-loop-left
invariant-loop-left l = record { leads : LeadsTo l.fn.self l.text l.stage l.left }

abbrev pub decreases-loop-left : goal.decreases-loop-left
decreases-loop-left l = length l.left
