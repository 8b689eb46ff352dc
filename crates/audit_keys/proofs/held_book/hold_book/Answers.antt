use Rattle.std.proofs.Common.{ap, ◌∙◌, ◌++◌}
use Rattle.key_names.specs.Lanes.BaseList.{base_after}
use Rattle.audit_keys.specs.KeptEntries.{base_entries}
use Rattle.audit_keys.specs.declared.held.KeyHolder.TheVariants.{Base}
use Rattle.audit_keys.specs.Held.{held_key}
use Rattle.audit_keys.specs.Listed.{callers_tell, cpu_lists, cpus_tell}
use Rattle.audit_keys.proofs.held_book.hold_book.Goals as goal

pub returns-clause-keys : goal.returns-clause-keys
returns-clause-keys c = λ lists h.
    c.in_ok-add_callers.ensures.keys lists h.states
    ∙ ap (λ ks. ks ++ (callers_tell lists).keys)
    (c.in_ok-add_cpus.ensures.keys lists (ap cpu_lists c.deref-2.ensures.value ∙ h.cpus)
    ∙ ap (λ ks. ks ++ (cpus_tell lists).keys)
    (c.in_ok-add_base.ensures.keys ∙ ap (λ ks. ks ++ held_key Base (base_after (base_entries c.deref.result.now)).key)
    c.none-held.ensures.keys
    ∙ ap (λ es. held_key Base (base_after es).key) (ap base_entries c.deref.ensures.value ∙ h.base)))

pub returns-clause-rests : goal.returns-clause-rests
returns-clause-rests c = λ lists h.
    c.in_ok-add_callers.ensures.rests lists h.states
    ∙ ap (λ rs. rs ++ (callers_tell lists).rests)
    (c.in_ok-add_cpus.ensures.rests lists (ap cpu_lists c.deref-2.ensures.value ∙ h.cpus)
    ∙ ap (λ rs. rs ++ (cpus_tell lists).rests)
    (c.add_base.ensures.rests ∙ c.none-held.ensures.rests))
