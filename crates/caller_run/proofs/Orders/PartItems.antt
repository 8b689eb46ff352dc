-- Parts of a caller's steps, each with its items; two parts one after another make one part.
use Rattle.std.proofs.Common.{◌≡◌, ℕ, suc, ◌+◌, List, [], ◌∷◌, ◌++◌, length, map, refl, sym, ap, ◌∙◌, subst, arith}
use Rattle.std.proofs.lemmas.List.{map-append}
use Rattle.key_names.specs.declared.names.Step.{Step}
use Rattle.lane_table.specs.declared.view.View.{View}
use Rattle.lane_table.specs.Advances.{MadeStep, step_of, Advances}
use Rattle.caller_run.specs.NumberedSteps.{NumberedStep, numbered_steps_from, item_of, items_of}
use Rattle.caller_run.specs.Items.{Item, items_from}
use Rattle.caller_run.specs.Ran.{Ran}
use Rattle.caller_run.proofs.Orders.Chains.{items_from_doings, ran_nothing, ran_then, ran_went}

-- from v to w the caller made the steps of these items
pub record Part (caller : ℕ) (v w : View) (items : List Item) : Type 0 where
  pub numbered_steps : List NumberedStep
  pub ran : Ran caller v w numbered_steps
  pub order : items_of numbered_steps ≡ items

pub part_nothing : (caller : ℕ) (v w : View) → w ≡ v → Part caller v w []
part_nothing caller v w same =
    subst (λ (u : View). Part caller v u []) (sym same)
    (record { numbered_steps = []; ran = ran_nothing caller v; order = refl })

pub part_then : (caller : ℕ) (u v w : View) (xs ys : List Item) → Part caller u v xs → Part caller v w ys →
    Part caller u w (xs ++ ys)
part_then caller u v w xs ys a b = record {
  numbered_steps = a.numbered_steps ++ b.numbered_steps;
  ran = ran_then caller 0 0 u v w a.numbered_steps b.numbered_steps a.ran b.ran;
  order = map-append item_of a.numbered_steps b.numbered_steps ∙ (λ i. a.order i ++ b.order i);
}

pub part_went : (caller event n : ℕ) (v w : View) (made_steps : List MadeStep) →
    Advances caller event n v w made_steps → Part caller v w (items_from event n (map step_of made_steps))
part_went caller event n v w made_steps went = record {
  numbered_steps = numbered_steps_from event n made_steps;
  ran = ran_went caller event n v w made_steps went;
  order = items_from_doings event n made_steps;
}

-- if the steps of a line are xs and then ys, the line's items are the items of xs and then the items of ys
pub items_append : (event n : ℕ) (xs ys : List Step) →
    items_from event n (xs ++ ys) ≡ items_from event n xs ++ items_from event (length xs + n) ys
items_append event n [] ys =
    let e : n ≡ length {A = Step} [] + n = omega arith in ap (λ (k : ℕ). items_from event k ys) e
items_append event n (x ∷ xs) ys =
    let e : length xs + suc n ≡ length (x ∷ xs) + n = omega arith in
    ap (λ (l : List Item). record { event = event; number = n; step = x } ∷ l)
    (items_append event (suc n) xs ys ∙ ap (λ (k : ℕ). items_from event (suc n) xs ++ items_from event k ys) e)
