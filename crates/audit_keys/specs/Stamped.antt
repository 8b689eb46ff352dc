-- A caller's states after some of its calls. Each entry is listed with the call that left it, and with this call's end.
use Rattle.std.specs.Prelude.{ℕ, suc, ◌+◌, List, [], ◌∷◌, ◌++◌, map, replicate, slice_get, slice_set, unwrap_or}
use Rattle.std.specs.List.{range_with_len}
use Rattle.std.specs.Global.{Vec}
use Rattle.key_names.specs.declared.entries.VEntry.{VEntry}
use Rattle.key_names.specs.declared.events.Event.{Event}
use Rattle.key_names.specs.declared.events.Event.TheVariants.{Drop, State}
use Rattle.key_names.specs.Callers.Calls.{Call, alone, vread_call, unbound, ending}
use Rattle.audit_keys.specs.declared.entry.CallEnd.{CallEnd}
use Rattle.audit_keys.specs.declared.entry.StateEntry.{StateEntry}
use Rattle.audit_keys.specs.Left.{Left, nothing_left, wiped, vread_left}
use Rattle.audit_keys.specs.Callers.{Outlines, first_outlines, current_outline, with_outline, outlines_after, left_in}
use Rattle.audit_keys.specs.Ends.{end_of}
use Rattle.audit_keys.specs.Stamps.{over_at}

-- the entries that call number `call` left, each with the call's end
abbrev pub left_by : ℕ → CallEnd → List VEntry → List StateEntry
left_by call end entries = map (λ e. record { entry = e; call = call; end = end }) entries

abbrev pub kept_lists : List (Vec StateEntry) → List (List StateEntry)
kept_lists lists = map (λ list. list.items) lists

abbrev pub all_kept : List (Vec (Vec StateEntry)) → List (List (List StateEntry))
all_kept callers = map (λ lists. kept_lists lists.items) callers

-- a caller's outlines, the lists of its states up to now, and the stamp of its last visit
pub record States : Type 0 where
  pub outlines : Outlines
  pub lists : List (List StateEntry)
  pub stamp : ℕ

abbrev pub first_states : ℕ → States
first_states stamp = record { outlines = first_outlines; lists = replicate 16 []; stamp = stamp }

abbrev pub current_list : States → List StateEntry
current_list s = unwrap_or (slice_get s.lists s.outlines.current) []

-- the states after a call with this number and this end; the call left the outline and the entries of `l` for the
-- current state
abbrev pub left_over : ℕ → CallEnd → Left → States → States
left_over call end l s = record {
  outlines = with_outline s.outlines l.outline;
  lists = slice_set s.lists s.outlines.current (current_list s ++ left_by call end l.entries);
  stamp = end.stamp;
}

abbrev pub states_after_event : ℕ → CallEnd → States → Event → States
states_after_event call end s Drop = left_over call end (wiped (nothing_left (current_outline s.outlines))) s
states_after_event call end s (State number) =
    record s { outlines = record s.outlines { current = number }; stamp = end.stamp }
states_after_event call end s _ = record s { stamp = end.stamp }

-- the states after `call`, which has the number `i`
abbrev pub states_after : ℕ → States → Call → States
states_after i s (alone event line) = states_after_event i (end_of s.stamp (alone event line)) s event
states_after i s (vread_call n flags line acts) = left_over i (end_of s.stamp (vread_call n flags line acts))
    (vread_left n flags acts (nothing_left (current_outline s.outlines)) line.steps) s
states_after i s (unbound bound) = record s { stamp = over_at s.stamp (unbound bound) }
states_after i s (ending line) = record s { stamp = over_at s.stamp (ending line) }

-- the states after several calls; the first call has the number `i`
abbrev pub states_from : ℕ → States → List Call → States
states_from i s [] = s
states_from i s (call ∷ calls) = states_from (i + 1) (states_after i s call) calls

-- the entries that calls leave in the list of state `k`; `i` is the number of the first call, and `before` is the stamp
-- of the last visit before this call
abbrev pub list_over : ℕ → Outlines → ℕ → ℕ → List Call → List StateEntry
list_over k o i before [] = []
list_over k o i before (call ∷ calls) =
    left_by i (end_of before call) (left_in k o call)
    ++ list_over k (outlines_after o call) (i + 1) (over_at before call) calls

-- the lists that the calls of a caller leave; `start` is the stamp of the last visit before the first call
abbrev pub caller_over : ℕ → List Call → List (List StateEntry)
caller_over start calls = map (λ k. list_over k first_outlines 0 start calls) (range_with_len 0 16)

-- the lists that the calls of all callers leave; `starts` gives the stamp of the last visit before a caller's calls,
-- and `c` is the number of the first caller
abbrev pub all_over : (ℕ → ℕ) → ℕ → List (List Call) → List (List (List StateEntry))
all_over starts c [] = []
all_over starts c (calls ∷ callers) = caller_over (starts c) calls ∷ all_over starts (suc c) callers
