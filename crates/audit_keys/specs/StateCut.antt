-- The entries that a cut keeps. A cut is at a stamp or after a call, and never inside a call.
use Rattle.std.specs.Prelude.{ℕ, suc, ◌≡◌, Bool, List, [], ◌∷◌, map, filter, take, nat_le}
use Rattle.std.specs.Global.{Vec}
use Rattle.key_names.specs.declared.entries.VEntry.{VEntry}
use Rattle.key_names.specs.Callers.Calls.{Call}
use Rattle.audit_keys.specs.declared.entry.Cut.{Cut}
use Rattle.audit_keys.specs.declared.entry.Cut.TheVariants.{Stamp, Call as ByCall}
use Rattle.audit_keys.specs.declared.entry.StateEntry.{StateEntry}
use Rattle.audit_keys.specs.Callers.{lists_left}
use Rattle.audit_keys.specs.Entries.{entries_in}
use Rattle.audit_keys.specs.Stamps.{made_by, start_stamp}

-- a cut at a stamp keeps an entry if the entry's call was over by the stamp; a cut at call `n` keeps an entry if the
-- number of the entry's call is at most `n`
abbrev pub is_kept : Cut → StateEntry → Bool
is_kept (Stamp stamp) e = nat_le e.end.stamp stamp
is_kept (ByCall n) e = nat_le e.call n

-- the entries of a list that the cut keeps
abbrev pub entries_by : Cut → List StateEntry → List VEntry
entries_by cut list = entries_in (filter (is_kept cut) list)

-- the entries that the cut keeps of each of a caller's lists
abbrev pub lists_by : Cut → List (Vec StateEntry) → List (List VEntry)
lists_by cut lists = map (λ list. entries_by cut list.items) lists

-- the kept entries of all callers; each caller has its own cut, and `c` is the number of the first caller
abbrev pub all_lists_by : (ℕ → Cut) → ℕ → List (Vec (Vec StateEntry)) → List (List (List VEntry))
all_lists_by cuts c [] = []
all_lists_by cuts c (lists ∷ callers) = lists_by (cuts c) lists.items ∷ all_lists_by cuts (suc c) callers

-- how many of a caller's calls a cut keeps; `before` is the stamp of the caller's last visit before these calls
abbrev pub calls_by : Cut → ℕ → List Call → ℕ
calls_by (Stamp stamp) before calls = made_by stamp before calls
calls_by (ByCall n) before calls = suc n

-- the lists that the kept calls of each caller left; `starts` gives the stamp of the last visit before a caller's calls
abbrev pub lists_made : (ℕ → Cut) → (ℕ → ℕ) → ℕ → List (List Call) → List (List (List VEntry))
lists_made cuts starts c [] = []
lists_made cuts starts c (calls ∷ callers) =
    lists_left (take (calls_by (cuts c) (starts c) calls) calls) ∷ lists_made cuts starts (suc c) callers

-- for any cuts of the callers' lists, the kept entries are the entries that the first calls of each caller leave
abbrev pub AreCut : List (List Call) → List (Vec (Vec StateEntry)) → Type 0
AreCut callers lists = (cuts : ℕ → Cut) → all_lists_by cuts 0 lists ≡ lists_made cuts (start_stamp callers) 0 callers
