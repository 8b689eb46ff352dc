use Rattle.std.specs.Prelude.{◌≡◌, take}
use Rattle.audit_keys.specs.Cut.{list_to}
use Rattle.audit_keys.proofs.cut.list_to.Given as goal

abbrev pub invariant-loop-place : goal.invariant-loop-place
invariant-loop-place g l = l.cut.items ≡ list_to l.stamp l.moments (take l.place l.kept)
