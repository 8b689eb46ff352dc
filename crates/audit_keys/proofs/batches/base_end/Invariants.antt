use Rattle.key_names.specs.Lanes.BaseList.{base_start, base_step}
use Rattle.audit_keys.specs.KeptEntries.{base_entries}
use Rattle.audit_keys.proofs.BaseKeys.{BaseConforms}
use Rattle.audit_keys.proofs.Conforms.{ConformsAt}
use Rattle.audit_keys.proofs.batches.base_end.Given as goal

abbrev pub invariant-loop-place : goal.invariant-loop-place
invariant-loop-place l = ConformsAt base_step base_start BaseConforms (base_entries l.base) l.place l.key
