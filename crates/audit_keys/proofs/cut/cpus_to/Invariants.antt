use Rattle.std.specs.Prelude.{◌≡◌, map, take}
use Rattle.key_names.specs.Lanes.Book.{Book, entries_of}
use Rattle.audit_keys.specs.Moments.{visits_to}
use Rattle.audit_keys.specs.Listed.{cpu_lists}
use Rattle.audit_keys.specs.Cut.{KeepsVisits}
use Rattle.audit_keys.proofs.cut.cpus_to.Given as goal

abbrev pub invariant-loop-cpu : goal.invariant-loop-cpu
invariant-loop-cpu l = (book : Book) → KeepsVisits book l.kept l.moments →
    cpu_lists l.cpus.items ≡ map entries_of (map (visits_to l.stamp) (take l.cpu book.cpus))
