-- For each entry of a vgetrandom state, the end of the call that left the entry. The meanings of the calls are given.
use Rattle.std.specs.Prelude.{ℕ, suc, ◌≡◌, ◌==◌, List, [], ◌∷◌, ◌++◌, map, if◌then◌else◌}
use Rattle.std.specs.List.{range_with_len}
use Rattle.key_names.specs.Lanes.Book.{Lists}
use Rattle.key_names.specs.Callers.Calls.{Call, Setting}
use Rattle.key_names.specs.Transcripts.IsTranscript.{CallerMeans, EachCaller}
use Rattle.key_names.specs.Callers.Meaning.{CallMeaning}
use Rattle.audit_keys.specs.declared.entry.CallEnd.{CallEnd}
use Rattle.audit_keys.specs.declared.entry.StateEntry.{StateEntry}
use Rattle.audit_keys.specs.Ends.{end_of}
use Rattle.audit_keys.specs.Stamps.{over_at, start_stamp}

-- for each entry of state `k`, the end of the call that left the entry; `before` is the stamp of the last visit before
-- the calls
abbrev pub ends_of_state : ℕ → ℕ → List Call → List CallMeaning → List CallEnd
ends_of_state k before [] ms = []
ends_of_state k before (call ∷ calls) [] = []
ends_of_state k before (call ∷ calls) (m ∷ ms) =
    map (λ entry. end_of before call) (if m.before.current == k then m.entries else [])
    ++ ends_of_state k (over_at before call) calls ms

-- for each of a caller's sixteen states, and each entry of the state, the end of the call that left the entry
abbrev pub state_ends : ℕ → List Call → List CallMeaning → List (List CallEnd)
state_ends start calls ms = map (λ k. ends_of_state k start calls ms) (range_with_len 0 16)

-- for each entry of all callers' states, the end of the call that left the entry; `starts` gives the stamp of the last
-- visit before a caller's calls, and `c` is the number of the first caller
abbrev pub all_ends : (ℕ → ℕ) → ℕ → List (List Call) → List (List CallMeaning) → List (List (List CallEnd))
all_ends starts c [] mss = []
all_ends starts c (calls ∷ callers) [] = []
all_ends starts c (calls ∷ callers) (ms ∷ mss) =
    state_ends (starts c) calls ms ∷ all_ends starts (suc c) callers mss

-- for each entry of all callers' states, the end of the call that left the entry; `mss` are the meanings of the calls
abbrev pub listed_ends : List (List Call) → List (List CallMeaning) → List (List (List CallEnd))
listed_ends callers mss = all_ends (start_stamp callers) 0 callers mss

-- the ends of the calls that left the entries of `list`
abbrev pub ends_in : List StateEntry → List CallEnd
ends_in list = map (λ e. e.end) list

abbrev pub all_ends_in : List (List (List StateEntry)) → List (List (List CallEnd))
all_ends_in callers = map (map ends_in) callers

-- whatever meanings the calls have, each entry is listed with the end of the call that left it
abbrev pub AreListedEnds : List (List Call) → List (List (List StateEntry)) → Type 0
AreListedEnds callers entries = (lists : Lists) (settings : ℕ → Setting) (mss : List (List CallMeaning)) →
    EachCaller (λ c calls ms. CallerMeans lists (settings c) calls ms) 0 callers mss →
    all_ends_in entries ≡ listed_ends callers mss
