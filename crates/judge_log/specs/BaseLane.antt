-- The state of the base while the code replays the base's list.
use Rattle.std.specs.Prelude.{ℕ, ◌≡◌, ◌≤◌, ⊤, Option, Some, None, List, take, slice_get, option_and_then}
use Rattle.key_names.specs.declared.entries.BaseEntry.{BaseEntry}
use Rattle.key_names.specs.Lanes.PoolList.{Crossing, none}
use Rattle.key_names.specs.Lanes.BaseList.{BaseState, BaseFits, BaseMayCome, base_after}
use Rattle.key_names.specs.Lanes.Book.{Lists}
use Rattle.base_gen.specs.BaseValue.{BaseValue}
use Rattle.input_pool.specs.PoolConforms.{crossing_of}
use Rattle.judge_log.specs.declared.kept.KeptRoot.{KeptRoot}
use Rattle.judge_log.specs.declared.kept.KeptPool.{KeptPool}
use Rattle.judge_log.specs.Places.{AllPlaces}

-- the base's state by the definitions, made from the code's value `b`. The code keeps no place, no roots and no name of
-- the key, so these fields are 0 or none
abbrev pub state_of : BaseValue → BaseState
state_of b = record {
  place = 0;
  phase = b.phase;
  generation = b.generation;
  timer = b.timer;
  early_boot = b.early_boot;
  running = b.running;
  roots = 0;
  key = None;
}

abbrev pub Fits : BaseValue → BaseEntry → Type 0
Fits b e = BaseFits (state_of b) e

-- the crossing in the data kept about a visit of the pool; none if there is no such visit
abbrev pub crossing_kept : Option KeptPool → Crossing
crossing_kept None = none
crossing_kept (Some kept) = crossing_of kept.crossing

abbrev pub crossed_of : List KeptPool → ℕ → Crossing
crossed_of pool place = crossing_kept (slice_get pool place)

-- the root that the pool's visit at place `r` extracted; none if the visit is no extraction
abbrev pub root_in : List KeptPool → ℕ → Option KeptRoot
root_in pool r = option_and_then (λ (kept : KeptPool). kept.root) (slice_get pool r)

abbrev pub root_value_in : List KeptPool → ℕ → Option (List ℕ)
root_value_in pool r = option_and_then (λ (root : KeptRoot). Some root.value) (root_in pool r)

-- if an entry of the base names a root, the root's place in the pool is at least `least`, and the extraction there
-- names `place` of the base
abbrev pub RootConformsIn : List KeptPool → ℕ → ℕ → Option ℕ → Type 0
RootConformsIn pool least place None = ⊤
RootConformsIn pool least place (Some r) =
    (least ≤ r) × (option_and_then (λ (root : KeptRoot). Some root.base_place) (root_in pool r) ≡ Some place)

-- each entry of the base is allowed at its place
abbrev pub AllBaseMay : Lists → Type 0
AllBaseMay lists = AllPlaces (λ i e. BaseMayCome lists.pool (base_after (take i lists.base)) e) lists.base
