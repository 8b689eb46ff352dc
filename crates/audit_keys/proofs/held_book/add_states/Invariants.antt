use Rattle.std.specs.Prelude.{◌≡◌, ◌++◌, map}
use Rattle.key_names.specs.Lanes.Book.{Lists, list_at}
use Rattle.audit_keys.specs.Listed.{state_tells, listed_below}
use Rattle.audit_keys.proofs.held_book.add_states.Given as goal

abbrev pub invariant-loop-index : goal.invariant-loop-index
invariant-loop-index l = record {
  keys : (lists : Lists) → map (λ es. es.items) l.states ≡ list_at lists.callers l.caller →
      l.held.keys.items ≡ l.initial.held.keys.items ++ listed_below l.index (λ n. (state_tells lists l.caller n).keys);
  rests : (lists : Lists) → map (λ es. es.items) l.states ≡ list_at lists.callers l.caller →
      l.held.rests.items ≡ l.initial.held.rests.items ++ listed_below l.index (λ n. (state_tells lists l.caller n).rests);
}
