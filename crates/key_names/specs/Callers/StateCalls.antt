-- The uses of a vgetrandom state by its caller, one after another, and the list of entries that the uses leave.
use Rattle.std.specs.Prelude.{ℕ, ◌≡◌, IsTrue, ⊤, List, [], ◌∷◌, ◌++◌, take, replicate}
use Rattle.std.specs.List.{fold, AllByRecursion}
use Rattle.key_names.specs.declared.entries.CpuEntry.{CpuEntry}
use Rattle.key_names.specs.declared.entries.VEntry.{VEntry}
use Rattle.key_names.specs.declared.entries.VEntry.TheVariants.{Wipe}
use Rattle.key_names.specs.Lanes.LawfulList.{LawfulFrom}
use Rattle.key_names.specs.Lanes.StateList.{TakesRead, OrderedStateList, LawfulStateList}
use Rattle.key_names.specs.Kernel.VgetrandomState.{VgetrandomState, wiped_state}
use Rattle.key_names.specs.Kernel.BatchCopy.{has_left, state_of_same_batch, serve_entry}
use Rattle.key_names.specs.Kernel.Vgetrandom.{HostStep, Outcome, IsCall}

-- a use of a state: a vgetrandom call with the host's steps and the call's outcome, a copy without a call, or a wipe
pub data StateUse : Type 0 where
  by_call : ℕ → ℕ → List HostStep → Outcome → StateUse
  by_copy : ℕ → StateUse
  by_wipe : StateUse

abbrev pub StateUseConforms : VgetrandomState → StateUse → Type 0
StateUseConforms s (by_call n flags steps outcome) = IsCall n flags s steps outcome
StateUseConforms s (by_copy n) = IsTrue (has_left s n)
StateUseConforms s by_wipe = ⊤

abbrev pub state_after_use : VgetrandomState → StateUse → VgetrandomState
state_after_use s (by_call n flags steps outcome) = outcome.state
state_after_use s (by_copy n) = state_of_same_batch s n
state_after_use s by_wipe = wiped_state

abbrev pub entries_of_use : VgetrandomState → StateUse → List VEntry
entries_of_use s (by_call n flags steps outcome) = outcome.entries
entries_of_use s (by_copy n) = serve_entry s.pos n
entries_of_use s by_wipe = Wipe ∷ []

-- the entries that some uses of a vgetrandom state leave in its list, if the state is `s` before the first use
abbrev pub entries_of_uses : VgetrandomState → List StateUse → List VEntry
entries_of_uses s [] = []
entries_of_uses s (u ∷ uses) = entries_of_use s u ++ entries_of_uses (state_after_use s u) uses

-- after the uses of a state, the state's list is in order, and the served bytes of the state's batch are 0. The list is
-- lawful if each rekey takes its key from a user's read of 32 bytes
pub record LeavesLawful (caller state : ℕ) (es : List VEntry) (s : VgetrandomState) : Type 0 where
  pub ordered : OrderedStateList caller state es
  pub lawful : (cpu_list : ℕ → List CpuEntry) → AllByRecursion (TakesRead cpu_list) es →
      LawfulStateList cpu_list caller state es
  pub served_zero : take s.pos s.batch ≡ replicate s.pos 0

-- LeavesLawful holds after any uses of a wiped state, whatever the host does
abbrev pub UsesLeaveLawfulLists : Type 0
UsesLeaveLawfulLists = (caller state : ℕ) (uses : List StateUse) →
    LawfulFrom StateUseConforms state_after_use wiped_state uses →
    LeavesLawful caller state (entries_of_uses wiped_state uses) (fold state_after_use wiped_state uses)
