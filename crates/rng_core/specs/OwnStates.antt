-- The vgetrandom states that callers own, as the clauses of their calls describe them, and the law that these states
-- and the table's lists make a book.
use Rattle.std.specs.Prelude.{◌≡◌, ℕ, ◌+◌, ◌<◌, ◌≤◌, ⊤, Some, List, [], ◌∷◌, ◌++◌, length, map, slice_get}
use Rattle.std.specs.List.{sum_by, AllByRecursion}
use Rattle.key_names.specs.declared.entries.VEntry.{VEntry}
use Rattle.key_names.specs.declared.entries.VEntry.TheVariants.{Wipe}
use Rattle.key_names.specs.declared.events.Answer.{Answer}
use Rattle.key_names.specs.Kernel.BatchCopy.{copy_entries}
use Rattle.key_names.specs.Lanes.Book.{Lists, HalfFinishedBook}
use Rattle.key_names.specs.Keys.LiveMaterial.{IsErased, HoldsNamed, replayed_batch}
use Rattle.key_names.specs.Transcripts.SeenLine.{Shown}
use Rattle.key_names.specs.Transcripts.StatesReplayed.{IsReplayed}
use Rattle.key_names.specs.Keys.Uses.{IsDisjoint}
use Rattle.key_names.specs.Kernel.VgetrandomState.{VgetrandomState, wiped_state}
use Rattle.lane_table.specs.declared.view.View.{View}
use Rattle.lane_table.specs.declared.view.Visit.{Visit}
use Rattle.lane_table.specs.WorldRule.{St, WorldRule, at, times}
use Rattle.lane_table.specs.Steps.{Grows}
use Rattle.lane_table.specs.RuleLaws.{IsView}
use Rattle.lane_table.specs.BookLists.{book_lists}
use Rattle.lane_table.specs.Advances.{MadeStep, looked, places_in}
use Rattle.rng_core.specs.declared.setting.Setting.{Setting}
use Rattle.rng_core.specs.Traces.{Moment}
use Rattle.rng_core.specs.Acts.{Ask, ActOutcome}
use Rattle.rng_core.specs.VreadMakes.{VreadMakes, LocallyServed}
use Rattle.rng_core.specs.InsideMakes.{InsideMakes}

-- a use of a state: a wipe, or a read by `vread`, `vread_inside` or `vread_local` with the effect that the function's
-- contract gives
pub data OwnUse : Type 0 where
  by_vread : (n flags : ℕ) (s t : VgetrandomState) (answer : Answer) (shown : Shown) (set : Setting) (l m : Moment) →
      VreadMakes n flags s t answer shown set l m → OwnUse
  by_vread_inside : (n flags : ℕ) (s t : VgetrandomState) (answer : Answer) (shown : Shown) (set : Setting)
      (l m : Moment) (asks : List Ask) (outcomes : List ActOutcome) →
      InsideMakes n flags s t answer shown set l m asks outcomes → OwnUse
  by_vread_local : (n flags : ℕ) (s t : VgetrandomState) (out : List ℕ) (set : Setting) (l m : Moment) →
      LocallyServed n flags s t out set l m → OwnUse
  by_wipe : VgetrandomState → OwnUse

-- the vgetrandom state before a use. `after_use`: the state after it
abbrev pub before_use : OwnUse → VgetrandomState
before_use (by_vread n flags s t answer shown set l m k) = s
before_use (by_vread_inside n flags s t answer shown set l m asks outcomes k) = s
before_use (by_vread_local n flags s t out set l m k) = s
before_use (by_wipe s) = s

abbrev pub after_use : OwnUse → VgetrandomState
after_use (by_vread n flags s t answer shown set l m k) = t
after_use (by_vread_inside n flags s t answer shown set l m asks outcomes k) = t
after_use (by_vread_local n flags s t out set l m k) = t
after_use (by_wipe s) = wiped_state

-- the entries of a use in the state's list
abbrev pub entries_of : OwnUse → List VEntry
entries_of (by_vread n flags s t answer shown set l m k) = k.entries
entries_of (by_vread_inside n flags s t answer shown set l m asks outcomes k) = k.entries
entries_of (by_vread_local n flags s t out set l m k) = copy_entries s 0 n
entries_of (by_wipe s) = Wipe ∷ []

-- the looks and visits of a use, except those that its acts made
abbrev pub steps_of : OwnUse → List MadeStep
steps_of (by_vread n flags s t answer shown set l m k) = k.did.made_steps
steps_of (by_vread_inside n flags s t answer shown set l m asks outcomes k) = k.made_steps
steps_of (by_vread_local n flags s t out set l m k) = looked k.found ∷ []
steps_of (by_wipe s) = []

-- some pass of the table knows everything that the view `w` knows
pub record IsKnown (s : St) (w : View) : Type 0 where
  pub number : ℕ
  pub view : View
  pub is : IsView s number view
  pub share : 0 < view.share
  pub long : length w.lanes ≡ length view.lanes
  pub grows : Grows w view

abbrev pub UseIsKnown : St → OwnUse → Type 0
UseIsKnown s (by_vread n flags b t answer shown set l m k) = IsKnown s m.view
UseIsKnown s (by_vread_inside n flags b t answer shown set l m asks outcomes k) = IsKnown s m.view
UseIsKnown s (by_vread_local n flags b t out set l m k) = IsKnown s m.view
UseIsKnown s (by_wipe b) = ⊤

-- each use begins with the state that the use before it left
abbrev pub Follow : VgetrandomState → List OwnUse → Type 0
Follow s [] = ⊤
Follow s (u ∷ us) = (before_use u ≡ s) × Follow (after_use u) us

-- the state after the uses of a list, which begin with the state `s`. `entries_left`: the entries that these uses leave
abbrev pub after_uses : VgetrandomState → List OwnUse → VgetrandomState
after_uses s [] = s
after_uses s (u ∷ us) = after_uses (after_use u) us

abbrev pub entries_left : List OwnUse → List VEntry
entries_left [] = []
entries_left (u ∷ us) = entries_of u ++ entries_left us

-- how many visits of a use are at place `p` of the list of CPU `c`. `all_visits_at` counts the visits of all uses there
abbrev pub visits_at : ℕ → ℕ → OwnUse → ℕ
visits_at c p u = times p (places_in (c + 2) (steps_of u))

abbrev pub all_visits_at : ℕ → ℕ → List (List OwnUse) → ℕ
all_visits_at c p states = sum_by (λ uses. sum_by (visits_at c p) uses) states

-- `states` lists the uses of each own state up to a moment of the table. Each state is wiped before its first use, and
-- is between two calls. For each use, some pass knows what the use's caller knew. The visits of the uses are among the
-- visits that the passes made
pub record OwnStates (s : St) (states : List (List OwnUse)) : Type 0 where
  pub follow : AllByRecursion (Follow wiped_state) states
  pub known : AllByRecursion (AllByRecursion (UseIsKnown s)) states
  pub counted : (c p : ℕ) → c + 2 < length s.homes →
      all_visits_at c p states ≤ sum_by (λ v. times p (at (c + 2) v).places) s.views

-- the book of the table's lists `logs` so far and of the vgetrandom states `states`. In the book each of these states
-- is state 0 of a caller
abbrev pub own_lists : St → (ℕ → List Visit) → List (List OwnUse) → Lists
own_lists s logs states = book_lists (length s.homes) logs (map (λ uses. entries_left uses ∷ []) states)

-- the book is lawful except for visits that are half finished, so no two states took the same read as a key. No byte of
-- a key was used twice. No live state holds a replaced key. Each state is the replay of its own list
pub record OwnBook (lists : Lists) (states : List (List OwnUse)) : Type 0 where
  pub lawful : HalfFinishedBook lists
  pub disjoint : IsDisjoint lists
  pub erased : IsErased lists (replayed_batch lists)
  pub named : HoldsNamed lists
  pub replayed : (i : ℕ) (uses : List OwnUse) → slice_get states i ≡ Some uses →
      IsReplayed lists i 0 (entries_left uses) (after_uses wiped_state uses)

-- at each moment between two atomic steps, `OwnBook` holds for the states that callers of the core own
abbrev pub OwnStatesAreLawful : Type 0
OwnStatesAreLawful = (first : ℕ) (s : St) (r : WorldRule first s) (states : List (List OwnUse)) →
    OwnStates s states → OwnBook (own_lists s r.logs states) states
