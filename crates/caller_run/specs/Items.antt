-- The steps of a caller's calls in the order in which they happen. Each step has its maker: the number of its line's
-- event, and the number of the step in that line.
use Rattle.std.specs.Prelude.{ℕ, suc, false, List, [], ◌∷◌, ◌++◌, map, take, drop, slice_get, if◌then◌else◌}
use Rattle.std.specs.Option.{option_map_or}
use Rattle.std.specs.List.{flat_map}
use Rattle.key_names.specs.declared.names.Step.{Step}
use Rattle.key_names.specs.declared.point.Point.{Point}
use Rattle.key_names.specs.declared.point.Point.TheVariants.{Start, Written, Serve, End}
use Rattle.key_names.specs.Callers.Calls.{Call, alone, vread_call, unbound, ending, BoundAct}
use Rattle.key_names.specs.Callers.History.{is_mark}
use Rattle.key_names.specs.Kernel.Points.{is_same_point}
use Rattle.key_names.specs.Transcripts.SeenLine.{SeenLine}

-- a step, with the number of its event and its own number among the steps of that event's line
pub record Item : Type 0 where
  pub event : ℕ
  pub number : ℕ
  pub step : Step

-- the steps of `items`, without their events and numbers
abbrev pub steps_of : List Item → List Step
steps_of items = map (λ item. item.step) items

-- the items of a line's steps; i is the number of the first step
abbrev pub items_from : ℕ → ℕ → List Step → List Item
items_from event i [] = []
items_from event i (step ∷ steps) = record { event = event; number = i; step = step } ∷ items_from event (suc i) steps

abbrev pub line_items : SeenLine → List Item
line_items line = items_from line.event 0 line.steps

-- the steps of the acts at a point, in the order of the script
abbrev pub items_at_point : List BoundAct → Point → List Item
items_at_point [] point = []
items_at_point (bound ∷ acts) point =
    if is_same_point bound.point point then line_items bound.line ++ items_at_point acts point
    else items_at_point acts point

-- cuts `items` after the visits at their front
abbrev pub cut_items : List Item → List Item × List Item
cut_items [] = ([], [])
cut_items (item ∷ items) =
    if is_mark item.step then (let cut = cut_items items in (item ∷ cut.0, cut.1)) else ([], item ∷ items)

-- cuts `items`, the steps of a vread after its first two, at the place of the points Serve and End. This place is after
-- the steps for a new key, or at the front if there are no such steps
abbrev pub cut_rekey : List Item → List Item × List Item
cut_rekey items =
    if option_map_or (λ item. is_mark item.step) (slice_get items 2) false
    then (let cut = cut_items (drop 2 items) in (take 2 items ++ cut.0, cut.1)) else ([], items)

-- the steps of a vread, with the steps of each act inside at the act's point
abbrev pub vread_items : List Item → List BoundAct → List Item
vread_items items acts =
    let cut = cut_rekey (drop 2 items) in
    take 2 items ++ items_at_point acts Start ++ items_at_point acts Written ++ cut.0 ++ items_at_point acts Serve
    ++ items_at_point acts End ++ cut.1

abbrev pub call_items : Call → List Item
call_items (alone event line) = line_items line
call_items (vread_call len flags line acts) = vread_items (line_items line) acts
call_items (unbound bound) = line_items bound.line
call_items (ending line) = line_items line

-- the steps of some calls, one call after another
abbrev pub calls_items : List Call → List Item
calls_items calls = flat_map call_items calls
