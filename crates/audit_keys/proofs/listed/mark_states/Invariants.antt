use Rattle.std.specs.Prelude.{◌≡◌, length}
use Rattle.std.specs.List.{list_any}
use Rattle.key_names.specs.Keys.Uses.{rekeys_place}
use Rattle.audit_keys.proofs.Marks.{MarkedBy}
use Rattle.audit_keys.proofs.listed.mark_states.Given as goal

abbrev pub invariant-loop-entries : goal.invariant-loop-entries
invariant-loop-entries l = record {
  marks : MarkedBy (λ k es. list_any (rekeys_place l.cpu k) es.items) l.states l.entries-index l.initial.places l.places;
  len : length l.places ≡ length l.initial.places;
}
