use Rattle.key_names.specs.Lanes.StateList.{state_start, state_step}
use Rattle.audit_keys.specs.UsedAt.{state_used_at}
use Rattle.audit_keys.specs.StateKeys.{StateConforms}
use Rattle.audit_keys.proofs.UsesMore.{SoFar}
use Rattle.audit_keys.proofs.state_uses.state_uses.Given as goal

abbrev pub invariant-loop-place : goal.invariant-loop-place
invariant-loop-place l =
    SoFar (state_used_at l.of) (state_step l.of.caller l.of.state) state_start StateConforms l.entries l.place l.keys l.uses.items
