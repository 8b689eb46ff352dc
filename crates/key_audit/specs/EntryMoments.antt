-- The moments of the entries of vgetrandom states.
use Rattle.std.specs.Prelude.{List, map}
use Rattle.std.specs.Global.{Vec}
use Rattle.audit_keys.specs.declared.entry.CallEnd.{CallEnd}
use Rattle.audit_keys.specs.declared.entry.StateEntry.{StateEntry}
use Rattle.audit_keys.specs.declared.moments.Moment.{Moment}

-- the moment of an entry of a vgetrandom state. A call left the entry: the moment is the stamp when this call was over,
-- and the call's line
abbrev pub end_moment : CallEnd → Moment
end_moment end = record { stamp = end.stamp; line = record { caller = end.caller; event = end.event } }

-- the moments of the entries of one vgetrandom state, of all states of a caller, and of all callers
abbrev pub entry_moments : List StateEntry → List Moment
entry_moments list = map (λ e. end_moment e.end) list

abbrev pub caller_moments : List (Vec StateEntry) → List (List Moment)
caller_moments lists = map (λ list. entry_moments list.items) lists

abbrev pub all_moments : List (Vec (Vec StateEntry)) → List (List (List Moment))
all_moments callers = map (λ lists. caller_moments lists.items) callers
