-- References between lanes. An extraction of the pool names a place in the base's list: the place that takes the root.
-- The base's entry at that place names the extraction back. A refill of the base and an entry of a CPU name each other
-- in the same way. The visit of the base or the CPU receives the key that the visit of the parent lane hands on.
use Rattle.std.specs.Prelude.{◌≡◌, ◌⊎◌, ℕ, ◌<◌, ◌≤◌, List, Some, length}
use mathlib.Core.Option.{some}
use lib.ListN.{get_elem?}
use Rattle.lane_table.specs.declared.view.Visit.{Visit}
use Rattle.lane_table.specs.Meaning.{LawfulLane, after_of, ahead_of, parent}

-- if this lane's entry at place `b` names place `p` of the parent lane, the visit at `p` names `b`, and the entry
-- received that visit's key
abbrev pub Pointed : ℕ → List Visit → List Visit → Type 0
Pointed lane following here = (b p : ℕ) (x : Visit) → get_elem? here b ≡ some x → after_of x.entry ≡ Some p
    → (y : Visit) × (get_elem? following p ≡ some y) × (ahead_of y.entry ≡ Some (lane, b)) × (x.got ≡ y.gave)

-- if the parent lane's entry at place `p` names place `b` of this lane, the visit at `b` names `p`
abbrev pub Answered : ℕ → List Visit → List Visit → Type 0
Answered lane following here = (p b : ℕ) (x : Visit) → get_elem? following p ≡ some x → ahead_of x.entry ≡ Some (lane, b)
    → (y : Visit) × (get_elem? here b ≡ some y) × (after_of y.entry ≡ Some p)

-- `Pointed` holds for each lane and its parent lane
abbrev pub Closed : ℕ → (ℕ → List Visit) → Type 0
Closed lanes lists = (lane : ℕ) → 1 ≤ lane → lane < lanes → Pointed lane (lists (parent lane)) (lists lane)

-- `Answered` holds for each lane and its parent lane, so no visit is half finished
abbrev pub AllAnswered : ℕ → (ℕ → List Visit) → Type 0
AllAnswered lanes lists = (lane : ℕ) → 1 ≤ lane → lane < lanes → Answered lane (lists (parent lane)) (lists lane)

-- as `Answered`, but the named place may also be beyond the end of this lane's list
abbrev pub HalfAnswered : ℕ → List Visit → List Visit → Type 0
HalfAnswered lane following here = (p b : ℕ) (x : Visit) → get_elem? following p ≡ some x → ahead_of x.entry ≡ Some (lane, b)
    → ((y : Visit) × (get_elem? here b ≡ some y) × (after_of y.entry ≡ Some p)) ⊎ (length here ≤ b)

abbrev pub AllHalfAnswered : ℕ → (ℕ → List Visit) → Type 0
AllHalfAnswered lanes lists = (lane : ℕ) → 1 ≤ lane → lane < lanes
    → HalfAnswered lane (lists (parent lane)) (lists lane)

abbrev pub LawfulLists : ℕ → (ℕ → List Visit) → Type 0
LawfulLists lanes lists = (lane : ℕ) → lane < lanes → LawfulLane lanes lane (lists lane)

-- the lists of `lanes` lanes are lawful, references to parent lanes agree (`Closed`), and each reference from a parent
-- lane is answered or half finished
pub record ConsistentLists (lanes : ℕ) (lists : ℕ → List Visit) : Type 0 where
  pub closed : Closed lanes lists
  pub lawful : LawfulLists lanes lists
  pub half : AllHalfAnswered lanes lists
