use Rattle.std.specs.Prelude.{ℕ, List}
use Rattle.key_names.specs.declared.entries.VEntry.{VEntry}
use Rattle.key_names.specs.Lanes.StateList.{state_start, state_step}
use Rattle.audit_keys.specs.declared.state_uses.StateOf.{StateOf}
use Rattle.audit_keys.specs.declared.batches.StateBatch.{StateBatch}
use Rattle.audit_keys.specs.declared.lives.Lives.{Lives}
use Rattle.audit_keys.specs.Lives.{state_births_at, state_endings_at}
use Rattle.audit_keys.specs.Rests.{BatchConforms, state_given_up_at}
use Rattle.audit_keys.proofs.Along.{IsListed}
use Rattle.audit_keys.proofs.Conforms.{ConformsAt}
use Rattle.audit_keys.proofs.lives.Lives.state.Given as goal

-- `now` is `old` with the births, endings and given-up rests of the entries before `place` added, and `batch` has the
-- state's keys and batch before the entry at `place`
pub record StateSoFar (of : StateOf) (es : List VEntry) (place : ℕ) (old now : Lives) (batch : StateBatch) : Type 0 where
  pub births : IsListed (state_births_at of) (state_step of.caller of.state) state_start es place
      old.births.items now.births.items
  pub endings : IsListed (state_endings_at of) (state_step of.caller of.state) state_start es place
      old.endings.items now.endings.items
  pub given_up : IsListed (state_given_up_at of) (state_step of.caller of.state) state_start es place
      old.given_up.items now.given_up.items
  pub conforms : ConformsAt (state_step of.caller of.state) state_start BatchConforms es place batch

abbrev pub invariant-loop-place : goal.invariant-loop-place
invariant-loop-place l = StateSoFar l.of l.entries l.place l.initial.self l.self l.batch
