use Rattle.std.proofs.Common.{◌≤◌, length}
use Rattle.event_script.specs.Feeding.{LeadsTo}
use Rattle.event_script.specs.declared.whole.stage.ScriptStage.TheVariants.{Lines}
use Rattle.event_script.proofs.whole.stage.after_lines.Given as goal

abbrev pub invariant-loop-alloc : goal.invariant-loop-alloc
invariant-loop-alloc l = record {
  leads : LeadsTo (Lines l.fn.draft l.fn.number) l.text (Lines l.draft l.number) l.left;
  within : length l.left ≤ length l.text;
}

abbrev pub decreases-loop-alloc : goal.decreases-loop-alloc
decreases-loop-alloc l = length l.left
