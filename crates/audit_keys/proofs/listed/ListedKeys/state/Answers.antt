use Rattle.std.proofs.Common.{ap, ◌∙◌, ◌++◌}
use Rattle.key_names.specs.Lanes.StateList.{state_start, state_step, state_after}
use Rattle.key_names.specs.Keys.LiveMaterial.{state_rest}
use Rattle.audit_keys.specs.ListedFrom.{listed_from}
use Rattle.audit_keys.specs.UsedAt.{state_used_at}
use Rattle.audit_keys.specs.declared.held.KeyHolder.TheVariants.{State}
use Rattle.audit_keys.specs.declared.held.BatchHolder.TheVariants.{State as StateBatch}
use Rattle.audit_keys.specs.Held.{held_key, held_rest}
use Rattle.audit_keys.specs.Lives.{state_births_at, state_endings_at}
use Rattle.audit_keys.specs.Rests.{state_given_up_at}
use Rattle.audit_keys.specs.Listed.{tells_of, joined, state_tells}
use Rattle.audit_keys.proofs.Tells.{tells_same}
use Rattle.audit_keys.proofs.listed.ListedKeys.state.Goals as goal

pub returns : goal.returns
returns c = λ lists e.
    let old = tells_of c.args.self.now in
    let of = c.args.of in
    let step = state_step of.caller of.state in
    tells_same _ (joined old (state_tells lists of.caller of.state)) (record {
      births = c.in_ok-state.ensures.births
          ∙ ap (λ es. old.births ++ listed_from (state_births_at of) step state_start es) e;
      endings = c.in_ok-state.ensures.endings
          ∙ ap (λ es. old.endings ++ listed_from (state_endings_at of) step state_start es) e;
      given_up = c.in_ok-state.ensures.given_up
          ∙ ap (λ es. old.given_up ++ listed_from (state_given_up_at of) step state_start es) e;
      keys = c.in_ok-add_state.ensures.keys
          ∙ ap (λ es. old.keys ++ held_key (State of) (state_after of.caller of.state es).key) e;
      rests = c.in_ok-add_state.ensures.rests
          ∙ ap (λ es. old.rests ++ held_rest (StateBatch of) (state_rest (state_after of.caller of.state es))) e;
      uses = c.in_ok-extend_from_slice.ensures.items
          ∙ ap (λ us. old.uses ++ us) (c.deref.ensures.value
          ∙ c.in_ok-state_uses.ensures
          ∙ ap (listed_from (state_used_at of) step state_start) e);
    })
