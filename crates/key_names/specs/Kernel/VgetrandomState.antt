-- A vgetrandom state in its caller's memory (`struct vgetrandom_state`).
use Rattle.std.specs.Prelude.{ℕ, Bool, false, List, replicate, if◌then◌else◌}

-- the batch of 96 bytes, of which the first `pos` were served; the key for the next batch; the published generation
-- that the key was read for, or 0; and whether a call is using the state
pub record VgetrandomState : Type 0 where
  pub batch : List ℕ
  pub key : List ℕ
  pub generation : ℕ
  pub pos : ℕ
  pub in_use : Bool

-- the memory of a state after a wipe: zeros
abbrev pub wiped_state : VgetrandomState
wiped_state = record { batch = replicate 96 0; key = replicate 32 0; generation = 0; pos = 0; in_use = false }

-- the state after a point: zeros if the state was wiped at that point
abbrev pub state_left : Bool → VgetrandomState → VgetrandomState
state_left wiped s = if wiped then wiped_state else s
