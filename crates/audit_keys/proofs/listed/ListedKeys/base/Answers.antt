use Rattle.std.proofs.Common.{sym, ap, ◌∙◌, append-nil, ◌++◌}
use Rattle.key_names.specs.Lanes.BaseList.{base_start, base_step, base_after}
use Rattle.audit_keys.specs.ListedFrom.{listed_from}
use Rattle.audit_keys.specs.UsedAt.{base_used_at}
use Rattle.audit_keys.specs.declared.held.KeyHolder.TheVariants.{Base}
use Rattle.audit_keys.specs.Held.{held_key}
use Rattle.audit_keys.specs.Lives.{base_births_at, base_endings_at}
use Rattle.audit_keys.specs.Listed.{tells_of, joined, base_tells}
use Rattle.audit_keys.proofs.Tells.{tells_same}
use Rattle.audit_keys.proofs.listed.ListedKeys.base.Goals as goal

pub returns : goal.returns
returns c = λ lists e.
    let old = tells_of c.args.self.now in
    tells_same _ (joined old (base_tells lists)) (record {
      births = c.in_ok-base.ensures.births
          ∙ ap (λ es. old.births ++ listed_from base_births_at base_step base_start es) e;
      endings = c.in_ok-base.ensures.endings
          ∙ ap (λ es. old.endings ++ listed_from base_endings_at base_step base_start es) e;
      given_up = c.base.ensures.given_up ∙ sym (append-nil old.given_up);
      keys = c.in_ok-add_base.ensures.keys ∙ ap (λ es. old.keys ++ held_key Base (base_after es).key) e;
      rests = c.add_base.ensures.rests ∙ sym (append-nil old.rests);
      uses = c.in_ok-extend_from_slice.ensures.items
          ∙ ap (λ us. old.uses ++ us) (c.deref.ensures.value
          ∙ c.in_ok-base_uses.ensures
          ∙ ap (listed_from base_used_at base_step base_start) e);
    })
