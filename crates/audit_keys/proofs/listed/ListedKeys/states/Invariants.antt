use Rattle.std.specs.Prelude.{◌≡◌, map}
use Rattle.key_names.specs.Lanes.Book.{Lists, list_at}
use Rattle.audit_keys.specs.Listed.{tells_of, joined, all_below, state_tells}
use Rattle.audit_keys.proofs.listed.ListedKeys.states.Given as goal

abbrev pub invariant-loop-index : goal.invariant-loop-index
invariant-loop-index l = (lists : Lists) → map (λ es. es.items) l.states ≡ list_at lists.callers l.caller →
    tells_of l.self ≡ joined (tells_of l.initial.self) (all_below l.index (state_tells lists l.caller))
