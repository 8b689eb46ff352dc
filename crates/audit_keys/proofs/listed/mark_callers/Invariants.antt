use Rattle.std.specs.Prelude.{◌≡◌, length}
use Rattle.std.specs.List.{list_any}
use Rattle.key_names.specs.Keys.Uses.{rekeys_place}
use Rattle.audit_keys.proofs.Marks.{MarkedBy}
use Rattle.audit_keys.proofs.listed.mark_callers.Given as goal

abbrev pub invariant-loop-states : goal.invariant-loop-states
invariant-loop-states l = record {
  marks : MarkedBy (λ k states. list_any (λ es. list_any (rekeys_place l.cpu k) es.items) states.items) l.callers
      l.states-index l.initial.places l.places;
  len : length l.places ≡ length l.initial.places;
}
