-- The steps of a pass between two moments, in order: its looks, and its visits with their entries.
use Rattle.std.specs.Prelude.{◌≡◌, ℕ, suc, ◌+◌, ◌<◌, ◌==◌, ◌≤◌, ◌↔◌, max, ⊤, List, [], ◌∷◌, ◌++◌, take, length, if◌then◌else◌}
use mathlib.Core.Option.{some}
use lib.ListN.{get_elem?}
use Rattle.key_names.specs.declared.names.Mark.{Mark}
use Rattle.key_names.specs.declared.names.Step.{Step}
use Rattle.key_names.specs.declared.names.Step.TheVariants.{Look, Visit as Marked}
use Rattle.key_names.specs.declared.names.Who.{Who}
use Rattle.lane_table.specs.declared.view.Visit.{Visit}
use Rattle.lane_table.specs.declared.view.View.{View}
use Rattle.lane_table.specs.declared.view.LaneEntry.{LaneEntry}
use Rattle.key_names.specs.Lanes.BaseList.{ready}
use Rattle.base_gen.specs.BaseValue.{BaseValue}
use Rattle.lane_table.specs.Meaning.{Model, replay}
use Rattle.lane_table.specs.WorldRule.{at, known_of}
use Rattle.lane_table.specs.Steps.{Grows}
use Rattle.lane_table.specs.LaneNumbers.{index_of}
use Rattle.lane_table.specs.Calls.{SameView}

-- a look, or a visit with its entry
pub data MadeStep : Type 0 where
  looked : ℕ → MadeStep
  visited : Mark → LaneEntry → MadeStep

abbrev pub step_of : MadeStep → Step
step_of (looked g) = Look g
step_of (visited mark e) = Marked mark

-- the view `v` knows a visit with the mark `mark`, the maker `who` and the entry `e`
pub record IsMarkOf (v : View) (mark : Mark) (who : Who) (e : LaneEntry) : Type 0 where
  pub near : index_of mark.lane < length v.lanes
  pub visit : Visit
  pub there : get_elem? (known_of v (index_of mark.lane)) mark.place ≡ some visit
  pub by : visit.who ≡ who
  pub stamped : visit.stamp ≡ mark.stamp
  pub is : visit.entry ≡ e

abbrev pub maker : ℕ → ℕ → ℕ → Who
maker caller event step = record { caller = caller; event = event; step = step }

-- the view has each visit of the steps, with a maker: the caller, the event `event`, and the step's number. The first
-- step has number `n`, and the numbers rise by one from step to step
abbrev pub AllConform : View → ℕ → ℕ → ℕ → List MadeStep → Type 0
AllConform v caller event n [] = ⊤
AllConform v caller event n (looked g ∷ made_steps) = AllConform v caller event (suc n) made_steps
AllConform v caller event n (visited mark e ∷ made_steps) =
    IsMarkOf v mark (maker caller event n) e × AllConform v caller event (suc n) made_steps

abbrev pub looks_in : List MadeStep → List ℕ
looks_in [] = []
looks_in (looked g ∷ made_steps) = g ∷ looks_in made_steps
looks_in (visited mark e ∷ made_steps) = looks_in made_steps

abbrev pub places_in : ℕ → List MadeStep → List ℕ
places_in lane [] = []
places_in lane (looked g ∷ made_steps) = places_in lane made_steps
places_in lane (visited mark e ∷ made_steps) =
    if index_of mark.lane == lane then mark.place ∷ places_in lane made_steps else places_in lane made_steps

abbrev pub stamps_in : List MadeStep → List ℕ
stamps_in [] = []
stamps_in (looked g ∷ made_steps) = stamps_in made_steps
stamps_in (visited mark e ∷ made_steps) = mark.stamp ∷ stamps_in made_steps

-- each stamp is above the one before it, the first stamp is above `low`, and the last stamp is `high`. If there are no
-- stamps, `high` is `low`
abbrev pub Climbs : ℕ → List ℕ → ℕ → Type 0
Climbs low [] high = low ≡ high
Climbs low (stamp ∷ stamps) high = (low < stamp) × Climbs stamp stamps high

-- the greatest generation that a view has in `seen` or in the base's known list: no later look finds a lower one
abbrev pub floor : View → ℕ
floor v = max v.seen (replay (known_of v 1)).base.generation

-- the generation in a lane's model (its value in the proofs): the base's or the CPU's generation, or 0 for the pool
abbrev pub generation_of : Model → ℕ
generation_of s = max s.base.generation s.cpu.cpu.generation

-- each look finds at least the generation that was seen before the look. After a visit, the generation seen is at least
-- the visited lane's generation
abbrev pub Sees : View → ℕ → List MadeStep → ℕ → Type 0
Sees w low [] high = low ≤ high
Sees w low (looked g ∷ made_steps) high = (low ≤ g) × Sees w g made_steps high
Sees w low (visited mark e ∷ made_steps) high = (mid : ℕ) × (low ≤ mid)
    × (generation_of (replay (take (suc mark.place) (known_of w (index_of mark.lane)))) ≤ mid)
    × Sees w mid made_steps high

-- the core is ready if and only if it was reseeded
abbrev pub Agrees : BaseValue → Type 0
Agrees b = (b.phase ≡ ready) ↔ (1 ≤ b.generation)

-- from view `v` to view `w` the pass made exactly the steps `made_steps`, in the caller's event `event`. The first step
-- has number `n`
pub record Advances (caller event n : ℕ) (v w : View) (made_steps : List MadeStep) : Type 0 where
  pub same : SameView v w
  pub grows : Grows v w
  pub looks : w.looks ≡ v.looks ++ looks_in made_steps
  pub places : (lane : ℕ) → lane < length v.lanes → (at lane w).places ≡ (at lane v).places ++ places_in lane made_steps
  pub made : (lane : ℕ) → lane < length v.lanes →
      (at lane w).made ≡ (at lane v).made + length (places_in lane made_steps)
  pub heard : (lane : ℕ) → lane < length v.lanes → (at lane w).heard ≡ (at lane v).heard
  pub stamps : w.stamps ≡ v.stamps ++ stamps_in made_steps
  pub climbs : Climbs v.stamp (stamps_in made_steps) w.stamp
  pub sees : Sees w (floor v) made_steps (floor w)
  pub conform : AllConform w caller event n made_steps
