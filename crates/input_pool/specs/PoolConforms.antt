-- A pool in contracts, and how it matches the list of its entries.
use Rattle.std.specs.Prelude.{◌≡◌, ℕ, ◌≤◌}
use Rattle.key_names.specs.Lanes.PoolList.{PoolState, Crossing, ready, early, none}
use Rattle.blake2s_core.specs.Hash.{Hash, Conforms}
use Rattle.input_pool.specs.declared.pool.Crossing.{Crossing as Answered}
use Rattle.input_pool.specs.declared.pool.Crossing.TheVariants.{None, Early, Ready}

-- the hash that samples are mixed into, and the bits credited so far
pub record PoolParts : Type 0 where
  pub hash : Hash
  pub bits : ℕ

-- the pool matches a state of its list: the hash matches the state's key and text, and the bits are the same. The pool
-- does not hold the state's input value and input timer
pub record PoolConforms (pool : PoolParts) (s : PoolState) : Type 0 where
  pub hashed : Conforms pool.hash s.key s.text
  pub credited : pool.bits ≡ s.bits
  pub capped : s.bits ≤ 256

-- the code's crossing, as a crossing of the definitions
abbrev pub crossing_of : Answered → Crossing
crossing_of None = none
crossing_of Early = early
crossing_of Ready = ready
