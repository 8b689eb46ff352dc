-- The looks and visits of a caller, in order. Each has the number of its event and its own number among the steps of
-- that event's line.
use Rattle.std.specs.Prelude.{ℕ, suc, List, [], ◌∷◌, map}
use Rattle.caller_run.specs.Items.{Item}
use Rattle.lane_table.specs.Advances.{MadeStep, step_of}

-- a look or a visit, with the number of its event and its own number among the steps of that event's line
pub record NumberedStep : Type 0 where
  pub event : ℕ
  pub number : ℕ
  pub made_step : MadeStep

-- the numbered looks and visits of one event; n is the number of the first one
abbrev pub numbered_steps_from : ℕ → ℕ → List MadeStep → List NumberedStep
numbered_steps_from event n [] = []
numbered_steps_from event n (made_step ∷ made_steps) =
    record { event = event; number = n; made_step = made_step } ∷ numbered_steps_from event (suc n) made_steps

abbrev pub made_step_of : NumberedStep → MadeStep
made_step_of d = d.made_step

abbrev pub made_steps_of : List NumberedStep → List MadeStep
made_steps_of numbered_steps = map made_step_of numbered_steps

-- a look or a visit as an item (`Item`)
abbrev pub item_of : NumberedStep → Item
item_of d = record { event = d.event; number = d.number; step = step_of d.made_step }

abbrev pub items_of : List NumberedStep → List Item
items_of numbered_steps = map item_of numbered_steps
