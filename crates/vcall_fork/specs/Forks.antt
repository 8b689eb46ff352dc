-- A vgetrandom call during which the process forks at a point. The parent runs the rest of its call, and the child runs
-- the rest of its own copy of the call.
use Rattle.std.specs.Prelude.{ℕ, ◌≡◌, ◌≢◌, ◌≤◌, ◌==◌, ◌&&◌, ◌||◌, Bool, true, false, List, [], ◌∷◌, ◌++◌, if◌then◌else◌}
use Rattle.key_names.specs.declared.entries.VEntry.{VEntry}
use Rattle.key_names.specs.declared.entries.VEntry.TheVariants.{Wipe}
use Rattle.key_names.specs.declared.names.KeyName.{KeyName}
use Rattle.key_names.specs.declared.point.Point.TheVariants.{Start}
use Rattle.key_names.specs.Lanes.Book.{Lists, LawfulBook}
use Rattle.key_names.specs.Transcripts.PrintedBytes.{at_state, origin_uses}
use Rattle.key_names.specs.Keys.Uses.{IsUsed}
use Rattle.key_names.specs.Kernel.Vgetrandom.{read, failed, HostStep, publishes, system_call, at_point, Outcome, prefix_outcome, by_batch}
use Rattle.key_names.specs.Kernel.VgetrandomState.{VgetrandomState, wiped_state}
use Rattle.key_names.specs.Kernel.Points.{is_same_point}
use Rattle.vdso_state.specs.declared.place.Place.{Place}
use Rattle.vdso_state.specs.Places.{AfterPlace, AtPlace, Climbs}
use Rattle.vcall_fork.specs.declared.stage.Stage.{Stage}
use Rattle.vcall_fork.specs.Stops.{RestOfCall}

-- a call at this stage, with this state and this buffer, reached `place` by the steps `before`, which left `entries`.
-- Whatever the rest of the call from `place` on is, its steps after `before`, with its entries after `entries`, are the
-- rest of the call from this stage on
abbrev pub LeadsTo : Stage → List ℕ → VgetrandomState → ℕ → ℕ → Place → List ℕ → VgetrandomState → List HostStep →
    List VEntry → Type 0
LeadsTo stage held s n flags place out t before entries = (rest : List HostStep) (outcome : Outcome) →
    AtPlace n flags place out t rest outcome →
    RestOfCall stage n flags held s (before ++ rest) (prefix_outcome entries outcome)

-- a fork at `place`. The rest of the parent's call completes that call as if it had not been stopped. The rest of the
-- child's call has a wiped state and a copy of the buffer. It completes a call that has the parent's steps before the
-- point, and a wipe at the point
pub record ForkIsRecorded (stage : Stage) (held : List ℕ) (s : VgetrandomState) (n flags : ℕ) (place : Place)
    (out : List ℕ) (t : VgetrandomState) (before : List HostStep) (entries : List VEntry) : Type 0 where
  pub parent : (rest : List HostStep) (outcome : Outcome) → AfterPlace n flags place out t rest outcome →
      RestOfCall stage n flags held s (before ++ at_point place.point false ∷ rest) (prefix_outcome entries outcome)
  pub child : (rest : List HostStep) (outcome : Outcome) → AfterPlace n flags place out wiped_state rest outcome →
      RestOfCall stage n flags held s (before ++ at_point place.point true ∷ rest)
      (prefix_outcome entries (prefix_outcome (Wipe ∷ []) outcome))

abbrev pub ForksAreRecorded : Type 0
ForksAreRecorded = (stage : Stage) (held : List ℕ) (s : VgetrandomState) (n flags : ℕ) (place : Place) (out : List ℕ)
    (t : VgetrandomState) (before : List HostStep) (entries : List VEntry) →
    LeadsTo stage held s n flags place out t before entries →
    ForkIsRecorded stage held s n flags place out t before entries

-- whether the last attempt in the given steps read a key; `taken` is whether the attempt that these steps continue had
-- read one before
abbrev pub takes_key : Bool → List HostStep → Bool
takes_key taken [] = taken
takes_key taken (publishes g ∷ steps) = takes_key taken steps
takes_key taken (system_call n flags (read bytes visit) ∷ steps) = takes_key ((n == 32 && flags == 0) || taken) steps
takes_key taken (system_call n flags (failed errno) ∷ steps) = takes_key taken steps
takes_key taken (at_point point wiped ∷ steps) = takes_key (if is_same_point point Start then false else taken) steps

-- if a child's bytes come out of its state, the child read a key after the fork, through its own host, in the attempt
-- that gave the bytes
abbrev pub ChildTakesKey : Type 0
ChildTakesKey = (n flags : ℕ) (place : Place) (out : List ℕ) (steps : List HostStep) (outcome : Outcome)
    (high : ℕ) (bytes : List ℕ) → AfterPlace n flags place out wiped_state steps outcome → 1 ≤ place.published →
    Climbs place.published high steps → outcome.ending ≡ by_batch bytes → takes_key false steps ≡ true

-- in a lawful book the vgetrandom states of two callers never use the same byte of a key's keystream. So no byte of a
-- keystream comes out of both the parent's state and the child's state
abbrev pub ForksShareNothing : Type 0
ForksShareNothing = (lists : Lists) → LawfulBook lists →
    (parent child : ℕ) (parents_state childs_state parents_place childs_place : ℕ) → parent ≢ child →
    (key : KeyName) (q : ℕ) → IsUsed (origin_uses lists (at_state parent parents_state parents_place)) key q →
    IsUsed (origin_uses lists (at_state child childs_state childs_place)) key q → ⊥
