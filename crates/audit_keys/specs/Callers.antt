-- The entries and outlines that a caller's calls leave for its sixteen vgetrandom states.
use Rattle.std.specs.Prelude.{ℕ, ◌==◌, List, [], ◌∷◌, ◌++◌, map, replicate, slice_get, slice_set, unwrap_or}
use Rattle.std.specs.Prelude.{if◌then◌else◌}
use Rattle.std.specs.List.{range_with_len}
use Rattle.key_names.specs.declared.entries.VEntry.{VEntry}
use Rattle.key_names.specs.declared.entries.VEntry.TheVariants.{Wipe}
use Rattle.key_names.specs.declared.events.Event.{Event}
use Rattle.key_names.specs.declared.events.Event.TheVariants.{Drop, State}
use Rattle.key_names.specs.Callers.Calls.{Call, alone, vread_call, unbound, ending}
use Rattle.audit_keys.specs.declared.outline.Outline.{Outline}
use Rattle.audit_keys.specs.Outline.{wiped_outline}
use Rattle.audit_keys.specs.Left.{nothing_left, vread_left}

-- the outline of each of a caller's vgetrandom states, and the number of the current state
pub record Outlines : Type 0 where
  pub each : List Outline
  pub current : ℕ

abbrev pub first_outlines : Outlines
first_outlines = record { each = replicate 16 wiped_outline; current = 0 }

abbrev pub current_outline : Outlines → Outline
current_outline o = unwrap_or (slice_get o.each o.current) wiped_outline

abbrev pub with_outline : Outlines → Outline → Outlines
with_outline o outline = record o { each = slice_set o.each o.current outline }

abbrev pub outlines_after_event : Outlines → Event → Outlines
outlines_after_event o Drop = with_outline o wiped_outline
outlines_after_event o (State number) = record o { current = number }
outlines_after_event o _ = o

abbrev pub outlines_after : Outlines → Call → Outlines
outlines_after o (alone event line) = outlines_after_event o event
outlines_after o (vread_call n flags line acts) =
    with_outline o (vread_left n flags acts (nothing_left (current_outline o)) line.steps).outline
outlines_after o (unbound bound) = o
outlines_after o (ending line) = o

abbrev pub entries_of_event : Event → List VEntry
entries_of_event Drop = Wipe ∷ []
entries_of_event _ = []

-- the entries that a call leaves in the list of the current state
abbrev pub entries_left : Outlines → Call → List VEntry
entries_left o (alone event line) = entries_of_event event
entries_left o (vread_call n flags line acts) =
    (vread_left n flags acts (nothing_left (current_outline o)) line.steps).entries
entries_left o (unbound bound) = []
entries_left o (ending line) = []

-- the entries that a call leaves in the list of state `k`
abbrev pub left_in : ℕ → Outlines → Call → List VEntry
left_in k o call = if o.current == k then entries_left o call else []

-- the entries that several calls leave in the list of state `k`
abbrev pub list_left : ℕ → Outlines → List Call → List VEntry
list_left k o [] = []
list_left k o (call ∷ calls) = left_in k o call ++ list_left k (outlines_after o call) calls

-- the lists that a caller's calls leave for its sixteen vgetrandom states
abbrev pub lists_left : List Call → List (List VEntry)
lists_left calls = map (λ k. list_left k first_outlines calls) (range_with_len 0 16)
