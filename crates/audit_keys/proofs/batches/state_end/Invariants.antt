use Rattle.key_names.specs.Lanes.StateList.{state_start, state_step}
use Rattle.audit_keys.specs.Rests.{BatchConforms}
use Rattle.audit_keys.proofs.Conforms.{ConformsAt}
use Rattle.audit_keys.proofs.batches.state_end.Given as goal

abbrev pub invariant-loop-entry : goal.invariant-loop-entry
invariant-loop-entry l =
    ConformsAt (state_step l.of.caller l.of.state) state_start BatchConforms l.entries l.entry-index l.batch
