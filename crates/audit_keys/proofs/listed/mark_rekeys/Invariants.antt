use Rattle.std.specs.Prelude.{◌≡◌, length}
use Rattle.key_names.specs.Keys.Uses.{rekeys_place}
use Rattle.audit_keys.proofs.Marks.{MarkedBy}
use Rattle.audit_keys.proofs.listed.mark_rekeys.Given as goal

abbrev pub invariant-loop-entry : goal.invariant-loop-entry
invariant-loop-entry l = record {
  marks : MarkedBy (rekeys_place l.cpu) l.entries l.entry-index l.initial.places l.places;
  len : length l.places ≡ length l.initial.places;
}
