-- The order of a caller's steps: first the steps of its ancestors, and then its own. Also the greatest generation that
-- the caller has seen.
use Rattle.std.specs.Prelude.{ℕ, zero, suc, ◌≤◌, max, Bool, true, false, ⊤, Option, Some, None, List, []}
use Rattle.std.specs.Prelude.{◌∷◌, ◌++◌, length, take, drop, slice_get, if◌then◌else◌}
use Rattle.std.specs.Option.{option_map_or}
use Rattle.std.specs.List.{flat_map, fold}
use Rattle.key_names.specs.declared.names.Step.{Step}
use Rattle.key_names.specs.declared.names.Step.TheVariants.{Look, Visit as Marked}
use Rattle.key_names.specs.declared.point.Point.{Point}
use Rattle.key_names.specs.declared.point.Point.TheVariants.{Start, Written, Serve, End}
use Rattle.key_names.specs.Kernel.Points.{is_same_point}
use Rattle.key_names.specs.Lanes.Book.{list_at}
use Rattle.key_names.specs.Callers.Calls.{Call, alone, vread_call, unbound, ending, BoundAct, Parent, parent_from}
use Rattle.key_names.specs.Callers.Effects.{Effect, looked, at_pool, at_base, at_cpu, nothing_there}

abbrev pub is_mark : Step → Bool
is_mark (Look g) = false
is_mark (Marked mark) = true

-- the steps up to and including the first visit
abbrev pub through_visit : List Step → List Step
through_visit [] = []
through_visit (step ∷ steps) = if is_mark step then step ∷ [] else step ∷ through_visit steps

-- the steps of the acts at a point, in the order of the script
abbrev pub steps_at_point : List BoundAct → Point → List Step
steps_at_point [] point = []
steps_at_point (bound ∷ acts) point =
    if is_same_point bound.point point then bound.line.steps ++ steps_at_point acts point
    else steps_at_point acts point

-- the steps before the first look, which are visits, and the steps from that look on
abbrev pub cut_after_visits : List Step → List Step × List Step
cut_after_visits [] = ([], [])
cut_after_visits (step ∷ steps) =
    if is_mark step then (let cut = cut_after_visits steps in (step ∷ cut.0, cut.1)) else ([], step ∷ steps)

-- cuts the steps of a vread, from its third step on, into two parts: the steps before the point Serve, and the steps
-- after the point End. If the vread's fifth step is a visit, the first part ends with the visits that begin there.
-- Otherwise the first part is empty
abbrev pub cut_after_rekey : List Step → List Step × List Step
cut_after_rekey steps =
    if option_map_or is_mark (slice_get steps 2) false
    then (let cut = cut_after_visits (drop 2 steps) in (take 2 steps ++ cut.0, cut.1)) else ([], steps)

-- the steps of a vread, with the steps of its acts put in at their points
abbrev pub vread_steps : List Step → List BoundAct → List Step
vread_steps steps acts =
    let cut = cut_after_rekey (drop 2 steps) in
    take 2 steps ++ steps_at_point acts Start ++ steps_at_point acts Written ++ cut.0 ++ steps_at_point acts Serve
    ++ steps_at_point acts End ++ cut.1

abbrev pub call_steps : Call → List Step
call_steps (alone event line) = line.steps
call_steps (vread_call len flags line acts) = vread_steps line.steps acts
call_steps (unbound bound) = bound.line.steps
call_steps (ending line) = line.steps

-- the steps of some calls, one call after another
abbrev pub calls_steps : List Call → List Step
calls_steps calls = flat_map call_steps calls

-- the steps of a child's ancestors, up to and including the visit that forks the child
abbrev pub inherited_steps : List (List Step) → Option Parent → List Step
inherited_steps ancestors None = []
inherited_steps ancestors (Some parent) =
    list_at ancestors parent.caller ++ calls_steps parent.fork.before ++ through_visit parent.fork.line.steps

-- for each of the first n callers, the steps before the caller's own steps; a parent has a lower number than its child
abbrev pub ancestors_steps : List (List Call) → ℕ → List (List Step)
ancestors_steps callers zero = []
ancestors_steps callers (suc c) =
    let earlier = ancestors_steps callers c in earlier ++ inherited_steps earlier (parent_from c 0 callers) ∷ []

-- the order of each caller: the steps of its ancestors, and then the steps of its own calls
abbrev pub orders_from : List (List Step) → List (List Call) → List (List Step)
orders_from ancestors [] = []
orders_from [] (calls ∷ rest) = calls_steps calls ∷ orders_from [] rest
orders_from (before ∷ ancestors) (calls ∷ rest) = (before ++ calls_steps calls) ∷ orders_from ancestors rest

abbrev pub caller_orders : List (List Call) → List (List Step)
caller_orders callers = orders_from (ancestors_steps callers (length callers)) callers

-- the stamps of the visits among these steps
abbrev pub stamps_of : List Step → List ℕ
stamps_of [] = []
stamps_of (Look g ∷ steps) = stamps_of steps
stamps_of (Marked mark ∷ steps) = mark.stamp ∷ stamps_of steps

-- the greatest generation that a caller has seen after one more step. A look shows the generation that it found. A
-- visit of the base or of a CPU shows the generation of that lane after the visit
abbrev pub seen_after : ℕ → Effect → ℕ
seen_after before (looked g) = max before g
seen_after before (at_pool v) = before
seen_after before (at_base v) = max before v.after.generation
seen_after before (at_cpu v) = max before v.after.generation
seen_after before nothing_there = before

-- the greatest generation that a caller has seen after steps with these effects
abbrev pub seen : List Effect → ℕ
seen effects = fold seen_after 0 effects

-- a look finds a generation that is at least `before`, the greatest that its caller had seen, and at most `reseeds`,
-- the base's last generation
abbrev pub LookConforms : ℕ → ℕ → Effect → Type 0
LookConforms reseeds before (looked g) = (before ≤ g) × (g ≤ reseeds)
LookConforms reseeds before (at_pool v) = ⊤
LookConforms reseeds before (at_base v) = ⊤
LookConforms reseeds before (at_cpu v) = ⊤
LookConforms reseeds before nothing_there = ⊤

-- LookConforms holds for each look among the effects, if the caller's effects `before` come first
abbrev pub LooksConform : ℕ → List Effect → List Effect → Type 0
LooksConform reseeds before [] = ⊤
LooksConform reseeds before (effect ∷ effects) =
    LookConforms reseeds (seen before) effect × LooksConform reseeds (before ++ effect ∷ []) effects
