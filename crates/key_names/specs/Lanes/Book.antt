-- The book of a run, and when a book is lawful. A book has the visits of each lane and the entries of each vgetrandom
-- state.
use Rattle.std.specs.Prelude.{ℕ, zero, suc, ◌≡◌, ◌≤◌, ◌⊎◌, Option, Some, List, [], ◌∷◌, length, map}
use Rattle.key_names.specs.declared.names.Who.{Who}
use Rattle.key_names.specs.declared.entries.PoolEntry.{PoolEntry}
use Rattle.key_names.specs.declared.entries.BaseEntry.{BaseEntry}
use Rattle.key_names.specs.declared.entries.CpuEntry.{CpuEntry}
use Rattle.key_names.specs.declared.entries.VEntry.{VEntry}
use Rattle.key_names.specs.Lanes.PoolList.{extraction_at}
use Rattle.key_names.specs.Lanes.BaseList.{LawfulBase, root_at, refill_at}
use Rattle.key_names.specs.Lanes.CpuList.{LawfulCpu, base_refill_at}
use Rattle.key_names.specs.Lanes.StateList.{LawfulStateList, rekey_at}

-- a visit of a lane. The visit's place is its number in the lane's list, from 0
pub record Visit (E : Type 0) : Type 0 where
  pub stamp : ℕ
  pub who : Who
  pub entry : E

-- the visits of each lane, and the entries of each caller's vgetrandom states
pub record Book : Type 0 where
  pub pool : List (Visit PoolEntry)
  pub base : List (Visit BaseEntry)
  pub cpus : List (List (Visit CpuEntry))
  pub callers : List (List (List VEntry))

-- the lists of a book without the stamps and makers of the visits
pub record Lists : Type 0 where
  pub pool : List PoolEntry
  pub base : List BaseEntry
  pub cpus : List (List CpuEntry)
  pub callers : List (List (List VEntry))

abbrev pub entries_of : {E : Type 0} → List (Visit E) → List E
entries_of visits = map (λ visit. visit.entry) visits

abbrev pub lists_of : Book → Lists
lists_of book = record {
  pool = entries_of book.pool;
  base = entries_of book.base;
  cpus = map entries_of book.cpus;
  callers = book.callers;
}

-- the list with this number, or an empty list if the number is beyond the last list
abbrev pub list_at : {E : Type 0} → List (List E) → ℕ → List E
list_at [] n = []
list_at (xs ∷ xss) zero = xs
list_at (xs ∷ xss) (suc n) = list_at xss n

abbrev pub cpu_list : Lists → ℕ → List CpuEntry
cpu_list lists c = list_at lists.cpus c

abbrev pub state_list : Lists → ℕ → ℕ → List VEntry
state_list lists caller state = list_at (list_at lists.callers caller) state

-- the lists of the base and of the CPUs are lawful. Then, if an entry names a root or a refill, the root's extraction
-- or the refill names the place of that entry
pub record ForwardLawful (lists : Lists) : Type 0 where
  pub base : LawfulBase lists.pool lists.base
  pub cpus : (c : ℕ) → LawfulCpu lists.base c (cpu_list lists c)

-- the base's entry at place `i` names the root that the extraction at pool place `p` gives
abbrev pub ExtractionAnswered : Lists → ℕ → ℕ → Type 0
ExtractionAnswered lists p i = root_at lists.base i ≡ Some p

-- the entry at place `k` of CPU `c` names the refill at base place `b`
abbrev pub RefillAnswered : Lists → ℕ → ℕ → ℕ → Type 0
RefillAnswered lists b c k = base_refill_at (cpu_list lists c) k ≡ Some b

-- the lists of the lanes are lawful. If an extraction or a refill names a place, the entry at that place names the
-- extraction or the refill
pub record LawfulLanes (lists : Lists) : Type 0 where
  pub forward : ForwardLawful lists
  pub extractions : (p i : ℕ) → extraction_at lists.pool p ≡ Some i → ExtractionAnswered lists p i
  pub refills : (b c k : ℕ) → refill_at lists.base b ≡ Some (c, k) → RefillAnswered lists b c k

-- LawfulLanes, but visits may be half finished: an extraction may name a place that the base's list does not have yet,
-- and a refill a place that the CPU's list does not have yet
pub record HalfFinishedLanes (lists : Lists) : Type 0 where
  pub forward : ForwardLawful lists
  pub extractions : (p i : ℕ) → extraction_at lists.pool p ≡ Some i →
      ExtractionAnswered lists p i ⊎ (length lists.base ≤ i)
  pub refills : (b c k : ℕ) → refill_at lists.base b ≡ Some (c, k) →
      RefillAnswered lists b c k ⊎ (length (cpu_list lists c) ≤ k)

-- the place of an entry in the list of a caller's vgetrandom state
pub record StatePlace : Type 0 where
  pub caller : ℕ
  pub state : ℕ
  pub place : ℕ

-- if an entry of a vgetrandom state is a rekey, the CPU and the place of the read that gives the state its key
abbrev pub rekey_in : Lists → StatePlace → Option (ℕ × ℕ)
rekey_in lists at = rekey_at (state_list lists at.caller at.state) at.place

-- the lists of the states are lawful, and no two entries take the same read as a key
pub record LawfulStates (lists : Lists) : Type 0 where
  pub states : (caller state : ℕ) → LawfulStateList (cpu_list lists) caller state (state_list lists caller state)
  pub one_taker : (a b : StatePlace) (read : ℕ × ℕ) → rekey_in lists a ≡ Some read →
      rekey_in lists b ≡ Some read → a ≡ b

-- all lists are lawful. LawfulSamples is separate, because it depends on the makers of the visits, which Lists does not
-- contain
pub record LawfulBook (lists : Lists) : Type 0 where
  pub lanes : LawfulLanes lists
  pub states : LawfulStates lists

pub record HalfFinishedBook (lists : Lists) : Type 0 where
  pub lanes : HalfFinishedLanes lists
  pub states : LawfulStates lists
