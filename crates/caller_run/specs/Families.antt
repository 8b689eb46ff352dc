-- The run of a caller with all its descendants.
use Rattle.std.specs.Prelude.{◌≡◌, ◌⊎◌, ℕ, ◌+◌, ◌*◌, ◌^◌, ◌<◌, List, [], ◌∷◌, length, Some, slice_get}
use Rattle.std.specs.List.{AllByRecursion, sum_by}
use Rattle.key_names.specs.declared.events.Event.{Event}
use Rattle.key_names.specs.declared.names.LaneId.{LaneId}
use Rattle.key_names.specs.Texts.ScriptGrammar.{Script}
use Rattle.lane_table.specs.declared.view.Visit.{Visit}
use Rattle.lane_table.specs.declared.view.View.{View}
use Rattle.lane_table.specs.LaneNumbers.{index_of}
use Rattle.lane_table.specs.WorldRule.{AllBegin, Begins, at, known_of}
use Rattle.caller_run.specs.Laws.{Run, HasRun, IsOneOf, marked}
use Rattle.caller_run.specs.Standing.{Start}

-- `v` is the view of a pass. In each lane, the visits that the pass has seen are a prefix of `visits`, and so are the
-- visits that each joined pass had seen
pub record Hears (visits : ℕ → List Visit) (v : View) : Type 0 where
  pub known : (lane : ℕ) → lane < length v.lanes → Begins (known_of v lane) (visits lane)
  pub heard : (lane : ℕ) → lane < length v.lanes → AllBegin (at lane v).heard (visits lane)

-- in the run `r`, a caller of the script made all of its events
pub record RunsIn (script : Script) (r : Run) : Type 0 where
  pub events : List Event
  pub there : slice_get script.callers r.begun.caller ≡ Some events
  pub has : HasRun r.begun.caller events r

-- `runs` are runs of callers of the script. Each of these callers began at one of `starts`, or was forked by a caller
-- whose run is among `runs`
pub record Family (script : Script) (starts : List Start) (runs : List Run) : Type 0 where
  pub each : AllByRecursion (RunsIn script) runs
  pub began : AllByRecursion
      (λ r. IsOneOf r.begun starts ⊎ ((p : Run) × IsOneOf p runs × IsOneOf r.begun p.kids)) runs

-- the sum of f over the places of all marks of `lane` in the lines of the run `r`
abbrev pub marked_by : (ℕ → ℕ) → LaneId → Run → ℕ
marked_by f lane r = marked f lane (r.lines ∷ [])

-- a pass with the view v joined the passes of the runs `runs`; after that its view is w
pub record Joined (v w : View) (runs : List Run) : Type 0 where
  pub sized : length w.lanes ≡ length v.lanes
  pub hears : (visits : ℕ → List Visit) → Hears visits w →
      Hears visits v × AllByRecursion (λ r. Hears visits r.end) runs
  pub alike : AllByRecursion (λ r. length r.end.lanes ≡ length v.lanes) runs
  pub placed : (f : ℕ → ℕ) (lane : LaneId) → index_of lane < length v.lanes →
      sum_by f (at (index_of lane) w).places
      ≡ sum_by f (at (index_of lane) v).places + sum_by (marked_by f lane) runs
  pub made : (lane : LaneId) → index_of lane < length v.lanes →
      (at (index_of lane) w).made ≡ (at (index_of lane) v).made + sum_by (marked_by (λ p. 1) lane) runs

-- the two views have the same share of the table, even if the share was halved more often in one of them
abbrev pub SameShare : View → View → Type 0
SameShare v w = w.share * 2 ^ v.halvings ≡ v.share * 2 ^ w.halvings

-- the pass was not split between the views v and w
pub record SameHalves (v w : View) : Type 0 where
  pub share : w.share ≡ v.share
  pub halvings : w.halvings ≡ v.halvings

-- a caller ran from the view x to its end, at which its view was e. It forked callers with these starts. Then it joined
-- the passes of these callers and of all their descendants, and its view is w
pub record RanOn (script : Script) (x e w : View) (starts : List Start) (runs : List Run) : Type 0 where
  pub family : Family script starts runs
  pub joined : Joined e w runs
  pub share : SameShare x w

-- a caller ran from its start to its end, with all its descendants
pub record RanSo (script : Script) (begun : Start) (w : View) (own : Run) (runs : List Run) : Type 0 where
  pub begun_is : own.begun ≡ begun
  pub has : RunsIn script own
  pub family : Family script (begun ∷ []) (own ∷ runs)
  pub joined : Joined own.end w runs
  pub share : SameShare begun.view w
