-- The stamps of a caller's visits determine when each of the caller's calls is over.
use Rattle.std.specs.Prelude.{ℕ, suc, ◌≡◌, ◌<◌, max, nat_le, List, [], ◌∷◌, if◌then◌else◌, length, slice_get, unwrap_or}
use Rattle.std.specs.List.{fold}
use Rattle.key_names.specs.declared.names.Step.{Step}
use Rattle.key_names.specs.Callers.Calls.{Call}
use Rattle.key_names.specs.Callers.CallerOrders.{start_of}
use Rattle.key_names.specs.Callers.History.{call_steps, stamps_of}

-- the greatest among `stamp` and the stamps of the visits in `steps`. If the steps are in a caller's order, the stamps
-- rise, so the greatest is the last
abbrev pub latest_of : ℕ → List Step → ℕ
latest_of stamp steps = fold max stamp (stamps_of steps)

-- the stamp when a call is over: the stamp of the last visit before the end of the call. `before` is the stamp of the
-- last visit before the call
abbrev pub over_at : ℕ → Call → ℕ
over_at before call = latest_of before (call_steps call)

-- how many calls at the front of a list were over by `stamp`; `before` is the stamp of the last visit before the calls
abbrev pub made_by : ℕ → ℕ → List Call → ℕ
made_by stamp before [] = 0
made_by stamp before (call ∷ calls) =
    if nat_le (over_at before call) stamp then suc (made_by stamp (over_at before call) calls) else 0

-- the stamp of the last visit that a caller's ancestors made before the caller's start
abbrev pub start_stamp : List (List Call) → ℕ → ℕ
start_stamp callers c = latest_of 0 (start_of callers c)

-- `starts` has, for each caller, the stamp of the last visit before the caller's start
abbrev pub AreStarts : List (List Call) → List ℕ → Type 0
AreStarts callers starts = (c : ℕ) → c < length callers → unwrap_or (slice_get starts c) 0 ≡ start_stamp callers c
