use Rattle.std.specs.Prelude.{◌≡◌, ◌++◌}
use Rattle.key_names.specs.Lanes.Book.{Lists}
use Rattle.audit_keys.specs.Listed.{caller_lists, caller_tells, listed_below}
use Rattle.audit_keys.proofs.held_book.add_callers.Given as goal

abbrev pub invariant-loop-index : goal.invariant-loop-index
invariant-loop-index l = record {
  keys : (lists : Lists) → caller_lists l.callers ≡ lists.callers →
      l.held.keys.items ≡ l.initial.held.keys.items ++ listed_below l.index (λ n. (caller_tells lists n).keys);
  rests : (lists : Lists) → caller_lists l.callers ≡ lists.callers →
      l.held.rests.items ≡ l.initial.held.rests.items ++ listed_below l.index (λ n. (caller_tells lists n).rests);
}
