-- The outline of a vgetrandom state: the part of the state that determines which entries a call leaves.
use Rattle.std.specs.Prelude.{◌≡◌, false, []}
use Rattle.key_names.specs.Kernel.VgetrandomState.{VgetrandomState}
use Rattle.key_names.specs.Callers.VreadSteps.{published_by}
use Rattle.audit_keys.specs.declared.outline.Outline.{Outline}

abbrev pub wiped_outline : Outline
wiped_outline = record { found = 0; served = 0 }

-- `o` is the outline of `s`: the vDSO publishes the generation of `s` when the core's generation is `o.found`, and `s`
-- has the position `o.served` in its batch
pub record IsOutline (o : Outline) (s : VgetrandomState) : Type 0 where
  pub generation : s.generation ≡ published_by o.found
  pub served : s.pos ≡ o.served

-- the state has this outline and is between two calls, so it is not in use
pub record IsBetweenCalls (o : Outline) (s : VgetrandomState) : Type 0 where
  pub outline : IsOutline o s
  pub idle : s.in_use ≡ false

-- a state that has this outline, and whose key and batch are empty lists
abbrev pub outlined : Outline → VgetrandomState
outlined o =
    record { batch = []; key = []; generation = published_by o.found; pos = o.served; in_use = false }
