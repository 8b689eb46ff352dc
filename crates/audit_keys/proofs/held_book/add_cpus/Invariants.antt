use Rattle.std.specs.Prelude.{◌≡◌, ◌++◌}
use Rattle.key_names.specs.Lanes.Book.{Lists}
use Rattle.audit_keys.specs.Listed.{cpu_lists, cpu_tells, listed_below}
use Rattle.audit_keys.proofs.held_book.add_cpus.Given as goal

abbrev pub invariant-loop-index : goal.invariant-loop-index
invariant-loop-index l = record {
  keys : (lists : Lists) → cpu_lists l.cpus ≡ lists.cpus →
      l.held.keys.items ≡ l.initial.held.keys.items ++ listed_below l.index (λ c. (cpu_tells lists c).keys);
  rests : (lists : Lists) → cpu_lists l.cpus ≡ lists.cpus →
      l.held.rests.items ≡ l.initial.held.rests.items ++ listed_below l.index (λ c. (cpu_tells lists c).rests);
}
