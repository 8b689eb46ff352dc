use Rattle.std.proofs.Common.{ap, ◌∙◌}
use Rattle.audit_keys.specs.KeptEntries.{base_entries}
use Rattle.audit_keys.specs.Listed.{joined, cpu_lists, base_tells, cpus_tell, callers_tell}
use Rattle.audit_keys.proofs.listed.tell_book.Goals as goal

pub returns : goal.returns
returns c = λ lists h.
    c.in_ok-callers.ensures lists h.states
    ∙ ap (λ t. joined t (callers_tell lists)) (c.in_ok-cpus.ensures lists (ap cpu_lists c.deref-2.ensures.value ∙ h.cpus) h.states
    ∙ ap (λ t. joined t (cpus_tell lists)) (c.in_ok-base.ensures lists (ap base_entries c.deref.ensures.value ∙ h.base)
    ∙ ap (λ t. joined t (base_tells lists)) c.none-listed.ensures))
