use Rattle.std.proofs.Common.{ap, ◌∙◌}
use Rattle.judge_log.specs.declared.kept.KeptBase.{KeptBase}
use Rattle.audit_keys.specs.KeptEntries.{base_entries}
use Rattle.audit_keys.specs.Cut.{stamps_of}
use Rattle.audit_keys.proofs.Cuts.{visits_kept}
use Rattle.audit_keys.proofs.cut.kept_to.Goals as goal

pub returns-clause-base : goal.returns-clause-base
returns-clause-base c book h =
    ap base_entries c.in_ok-base.ensures
    ∙ visits_kept (λ (k : KeptBase). k.entry) c.args.stamp c.deref.result.now c.deref-2.result.now book.base
    (ap base_entries c.deref.ensures.value ∙ h.base) (ap stamps_of c.deref-2.ensures.value ∙ h.base_stamps)
