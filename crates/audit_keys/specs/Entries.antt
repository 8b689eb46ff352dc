-- The entries of a list of `StateEntry`, which has each entry with the call that left the entry.
use Rattle.std.specs.Prelude.{List, map}
use Rattle.std.specs.Global.{Vec}
use Rattle.key_names.specs.declared.entries.VEntry.{VEntry}
use Rattle.audit_keys.specs.declared.entry.StateEntry.{StateEntry}

abbrev pub entries_in : List StateEntry → List VEntry
entries_in list = map (λ e. e.entry) list

-- the lists of a caller's states, reduced to their entries
abbrev pub lists_in : List (Vec StateEntry) → List (List VEntry)
lists_in lists = map (λ list. entries_in list.items) lists

-- the lists of all callers' states, reduced to their entries
abbrev pub all_lists_in : List (Vec (Vec StateEntry)) → List (List (List VEntry))
all_lists_in callers = map (λ lists. lists_in lists.items) callers
