-- An item is a step with its maker (its event and its number). Without their makers, the items of a caller's calls are
-- the steps of the calls in the same order.
use Rattle.std.proofs.Common.{◌≡◌, ℕ, suc, Bool, true, false, List, [], ◌∷◌, ◌++◌, take, drop, refl, ap, ◌∙◌}
use Rattle.std.specs.Prelude.{if◌then◌else◌}
use Rattle.std.proofs.lemmas.List.{map-append}
use Rattle.key_names.specs.declared.names.Step.{Step}
use Rattle.key_names.specs.declared.point.Point.{Point}
use Rattle.key_names.specs.declared.point.Point.TheVariants.{Start, Written, Serve, End}
use Rattle.key_names.specs.Callers.Calls.{Call, alone, vread_call, unbound, ending, BoundAct}
use Rattle.key_names.specs.Callers.History.{is_mark, cut_after_visits, cut_after_rekey, steps_at_point, vread_steps, call_steps, calls_steps}
use Rattle.key_names.specs.Kernel.Points.{is_same_point}
use Rattle.key_names.specs.Transcripts.SeenLine.{SeenLine}
use Rattle.caller_run.specs.Items.{Item, steps_of, items_from, line_items, items_at_point, cut_items, cut_rekey, vread_items, call_items, calls_items}

steps_append : (xs ys : List Item) → steps_of (xs ++ ys) ≡ steps_of xs ++ steps_of ys
steps_append xs ys = map-append (λ (item : Item). item.step) xs ys

from_steps : (event i : ℕ) (steps : List Step) → steps_of (items_from event i steps) ≡ steps
from_steps event i [] = refl
from_steps event i (step ∷ steps) = ap (λ (l : List Step). step ∷ l) (from_steps event (suc i) steps)

line_steps : (line : SeenLine) → steps_of (line_items line) ≡ line.steps
line_steps line = from_steps line.event 0 line.steps

point_steps : (acts : List BoundAct) (point : Point) → steps_of (items_at_point acts point) ≡ steps_at_point acts point
point_steps [] point = refl
point_steps (bound ∷ acts) point = go (is_same_point bound.point point) (point_steps acts point)
  where
    go : (b : Bool) → steps_of (items_at_point acts point) ≡ steps_at_point acts point →
        steps_of (if b then line_items bound.line ++ items_at_point acts point else items_at_point acts point)
        ≡ (if b then bound.line.steps ++ steps_at_point acts point else steps_at_point acts point)
    go true rest = steps_append (line_items bound.line) (items_at_point acts point)
        ∙ (λ i. line_steps bound.line i ++ rest i)
    go false rest = rest

abbrev both_steps : List Item × List Item → List Step × List Step
both_steps cut = (steps_of cut.0, steps_of cut.1)

cut_steps : (items : List Item) → both_steps (cut_items items) ≡ cut_after_visits (steps_of items)
cut_steps [] = refl
cut_steps (item ∷ items) = go (is_mark item.step) (cut_steps items)
  where
    go : (b : Bool) → both_steps (cut_items items) ≡ cut_after_visits (steps_of items) →
        both_steps (if b then (item ∷ (cut_items items).0, (cut_items items).1) else ([], item ∷ items))
        ≡ (if b then (item.step ∷ (cut_after_visits (steps_of items)).0, (cut_after_visits (steps_of items)).1)
        else ([], item.step ∷ steps_of items))
    go true rest = ap (λ (c : List Step × List Step). (item.step ∷ c.0, c.1)) rest
    go false rest = refl

rekey_steps : (items : List Item) → both_steps (cut_rekey items) ≡ cut_after_rekey (steps_of items)
rekey_steps [] = refl
rekey_steps (a ∷ []) = refl
rekey_steps (a ∷ b ∷ []) = refl
rekey_steps (a ∷ b ∷ c ∷ items) = go (is_mark c.step)
  where
    go : (by : Bool) →
        both_steps (if by then (a ∷ b ∷ (cut_items (c ∷ items)).0, (cut_items (c ∷ items)).1) else
        ([], a ∷ b ∷ c ∷ items))
        ≡ (if by then (
          a.step ∷ b.step ∷ (cut_after_visits (steps_of (c ∷ items))).0,
          (cut_after_visits (steps_of (c ∷ items))).1,
        ) else ([], steps_of (a ∷ b ∷ c ∷ items)))
    go true = ap (λ (x : List Step × List Step). (a.step ∷ b.step ∷ x.0, x.1)) (cut_steps (c ∷ items))
    go false = refl

take_two : (items : List Item) → steps_of (take 2 items) ≡ take 2 (steps_of items)
take_two [] = refl
take_two (a ∷ []) = refl
take_two (a ∷ b ∷ items) = refl

drop_two : (items : List Item) → steps_of (drop 2 items) ≡ drop 2 (steps_of items)
drop_two [] = refl
drop_two (a ∷ []) = refl
drop_two (a ∷ b ∷ items) = refl

vread_each : (items : List Item) (acts : List BoundAct) →
    steps_of (vread_items items acts) ≡ vread_steps (steps_of items) acts
vread_each items acts =
    let a1 : List Item = items_at_point acts Start in
    let a2 : List Item = items_at_point acts Written in
    let a3 : List Item = items_at_point acts Serve in
    let a4 : List Item = items_at_point acts End in
    let r : List Item = (cut_rekey (drop 2 items)).0 in
    let end : List Item = (cut_rekey (drop 2 items)).1 in
    let cut : both_steps (cut_rekey (drop 2 items)) ≡ cut_after_rekey (drop 2 (steps_of items)) =
    rekey_steps (drop 2 items) ∙ ap cut_after_rekey (drop_two items) in
    steps_append (take 2 items ++ a1 ++ a2 ++ r ++ a3 ++ a4) end
    ∙ (λ i. (steps_append (take 2 items ++ a1 ++ a2 ++ r ++ a3) a4
    ∙ (λ i. (steps_append (take 2 items ++ a1 ++ a2 ++ r) a3
    ∙ (λ i. (steps_append (take 2 items ++ a1 ++ a2) r
    ∙ (λ i. (steps_append (take 2 items ++ a1) a2
    ∙ (λ i. (steps_append (take 2 items) a1 ∙ (λ i. take_two items i ++ point_steps acts Start i)) i
    ++ point_steps acts Written i)) i ++ (cut i).0)) i ++ point_steps acts Serve i)) i ++ point_steps acts End i)) i
    ++ (cut i).1)

one_call : (call : Call) → steps_of (call_items call) ≡ call_steps call
one_call (alone event line) = line_steps line
one_call (vread_call len flags line acts) =
    vread_each (line_items line) acts ∙ ap (λ (l : List Step). vread_steps l acts) (line_steps line)
one_call (unbound bound) = line_steps bound.line
one_call (ending line) = line_steps line

-- without their makers (events and numbers), the items of a caller's calls are the steps of these calls in the same
-- order
pub same_steps : (calls : List Call) → steps_of (calls_items calls) ≡ calls_steps calls
same_steps [] = refl
same_steps (call ∷ calls) =
    steps_append (call_items call) (calls_items calls) ∙ (λ i. one_call call i ++ same_steps calls i)
