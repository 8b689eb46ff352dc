use Rattle.key_names.specs.Lanes.BaseList.{base_start, base_step}
use Rattle.audit_keys.specs.UsedAt.{base_used_at}
use Rattle.audit_keys.specs.KeptEntries.{base_entries}
use Rattle.audit_keys.proofs.BaseKeys.{BaseConforms}
use Rattle.audit_keys.proofs.UsesMore.{SoFar}
use Rattle.audit_keys.proofs.base_uses.base_uses.Given as goal

abbrev pub invariant-loop-place : goal.invariant-loop-place
invariant-loop-place l =
    SoFar base_used_at base_step base_start BaseConforms (base_entries l.base) l.place l.key l.uses.items
