use Rattle.std.specs.Prelude.{◌≡◌}
use Rattle.key_names.specs.Lanes.Book.{Lists}
use Rattle.audit_keys.specs.Listed.{caller_lists, tells_of, joined, all_below, caller_tells}
use Rattle.audit_keys.proofs.listed.ListedKeys.callers.Given as goal

abbrev pub invariant-loop-index : goal.invariant-loop-index
invariant-loop-index l = (lists : Lists) → caller_lists l.callers ≡ lists.callers →
    tells_of l.self ≡ joined (tells_of l.initial.self) (all_below l.index (caller_tells lists))
