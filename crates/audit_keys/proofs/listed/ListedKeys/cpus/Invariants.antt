use Rattle.std.specs.Prelude.{◌≡◌}
use Rattle.key_names.specs.Lanes.Book.{Lists}
use Rattle.audit_keys.specs.Listed.{cpu_lists, caller_lists, tells_of, joined, all_below, cpu_tells}
use Rattle.audit_keys.proofs.listed.ListedKeys.cpus.Given as goal

abbrev pub invariant-loop-index : goal.invariant-loop-index
invariant-loop-index l = (lists : Lists) → cpu_lists l.cpus ≡ lists.cpus → caller_lists l.callers ≡ lists.callers →
    tells_of l.self ≡ joined (tells_of l.initial.self) (all_below l.index (cpu_tells lists))
