-- The book of the lanes' lists of visits. A visit in the book leaves out the keys that it received and handed on.
use Rattle.std.specs.Prelude.{ℕ, ◌+◌, ◌-◌, Option, Some, None, List, map}
use Rattle.std.specs.List.{filter_map, range_with_len}
use Rattle.std.specs.Option.{option_map}
use Rattle.key_names.specs.declared.entries.PoolEntry.{PoolEntry}
use Rattle.key_names.specs.declared.entries.BaseEntry.{BaseEntry}
use Rattle.key_names.specs.declared.entries.CpuEntry.{CpuEntry}
use Rattle.key_names.specs.declared.entries.VEntry.{VEntry}
use Rattle.key_names.specs.Lanes.Book.{Book, Lists, lists_of, entries_of}
use Rattle.key_names.specs.Lanes.Book as of_book
use Rattle.lane_table.specs.declared.view.LaneEntry.{LaneEntry}
use Rattle.lane_table.specs.declared.view.LaneEntry.TheVariants.{Pool, Base, Cpu}
use Rattle.lane_table.specs.declared.view.Visit.{Visit}

-- the entry, if it belongs to the pool, to the base, or to a CPU; otherwise `None`
abbrev pub pool_entry : LaneEntry → Option PoolEntry
pool_entry (Pool e) = Some e
pool_entry (Base e) = None
pool_entry (Cpu e) = None

abbrev pub base_entry : LaneEntry → Option BaseEntry
base_entry (Pool e) = None
base_entry (Base e) = Some e
base_entry (Cpu e) = None

abbrev pub cpu_entry : LaneEntry → Option CpuEntry
cpu_entry (Pool e) = None
cpu_entry (Base e) = None
cpu_entry (Cpu e) = Some e

-- a visit as the book has it, without keys, if `of` accepts the visit's entry
abbrev pub book_visit : {E : Type 0} → (LaneEntry → Option E) → Visit → Option (of_book.Visit E)
book_visit of x = option_map (λ e. record { stamp = x.stamp; who = x.who; entry = e }) (of x.entry)

abbrev pub book_visits : {E : Type 0} → (LaneEntry → Option E) → List Visit → List (of_book.Visit E)
book_visits of xs = filter_map (book_visit of) xs

-- the entries that `of` accepts, in the order of the visits
abbrev pub entries : {E : Type 0} → (LaneEntry → Option E) → List Visit → List E
entries of xs = entries_of (book_visits of xs)

-- for each caller the entries of each of its vgetrandom states
abbrev pub StateLists : Type 0
StateLists = List (List (List VEntry))

-- the book of `lanes` lanes with the lists `visits`, and with the lists `callers` of vgetrandom states
abbrev pub book_of : ℕ → (ℕ → List Visit) → StateLists → Book
book_of lanes visits callers = record {
  pool = book_visits pool_entry (visits 0);
  base = book_visits base_entry (visits 1);
  cpus = map (λ c. book_visits cpu_entry (visits (c + 2))) (range_with_len 0 (lanes - 2));
  callers = callers;
}

abbrev pub book_lists : ℕ → (ℕ → List Visit) → StateLists → Lists
book_lists lanes visits callers = lists_of (book_of lanes visits callers)
