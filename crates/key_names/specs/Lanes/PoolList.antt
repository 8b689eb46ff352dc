-- What the pool's list means: the pool's state after the list's entries, the threshold that a credit crosses, and the
-- root that an extraction gives (extract_entropy).
use Rattle.std.specs.Prelude.{ℕ, ◌+◌, min, ◌&&◌, Option, Some, None, List, [], ◌++◌, take, nat_lt, nat_le, ◌==◌}
use Rattle.std.specs.Prelude.{slice_get, option_and_then, if◌then◌else◌}
use Rattle.std.specs.Int.{w32, w64, to_le_bytes}
use Rattle.std.specs.List.{fold}
use Rattle.key_names.specs.declared.entries.PoolEntry.{PoolEntry}
use Rattle.key_names.specs.declared.entries.PoolEntry.TheVariants.{Mix, Input, Bits, Extract}
use Rattle.key_names.specs.Kernel.Blake2s.{blake2s}
use Rattle.key_names.specs.Kernel.InputTimer.{InputTimer, timer_start, input_timer_after, timer_bits, input_number}

-- the hash's key, the bytes mixed since the last extraction, the credited bits, the last input value, and the input
-- timer
pub record PoolState : Type 0 where
  pub key : Option (List ℕ)
  pub text : List ℕ
  pub bits : ℕ
  pub value : ℕ
  pub timer : InputTimer

abbrev pub pool_start : PoolState
pool_start = record { key = None; text = []; bits = 0; value = 0; timer = timer_start }

-- the bits after a credit: never above 256 (_credit_init_bits)
abbrev pub credit : ℕ → ℕ → ℕ
credit bits more = min 256 (bits + min more 256)

pub data Crossing : Type 0 where
  ready early none : Crossing

-- the threshold that a change of the bits crosses. A change that passes both 128 and 256 crosses 256 alone
abbrev pub crossing : ℕ → ℕ → Crossing
crossing before after =
    if nat_lt before 256 && after == 256 then ready else (if nat_lt before 128 && nat_le 128 after then early else none)

-- the pool after an input event whose value is not the last one
abbrev pub pool_after_input : PoolState → ℕ → ℕ → ℕ → ℕ → ℕ → PoolState
pool_after_input s word kind code value now = record s {
  text = s.text ++ to_le_bytes w64 word ++ to_le_bytes w32 (input_number kind code value);
  value = value;
  bits = if nat_lt s.bits 256 then credit s.bits (timer_bits s.timer now) else s.bits;
  timer = if nat_lt s.bits 256 then input_timer_after s.timer now else s.timer;
}

-- the hash of the pool. An extraction makes the root and the next key from this hash
abbrev pub seed : PoolState → List ℕ
seed s = blake2s s.key s.text

-- the block that an extraction hashes under the seed: the hardware's bytes and a counter
abbrev pub seed_block : List ℕ → ℕ → List ℕ
seed_block hw counter = hw ++ to_le_bytes w64 counter

abbrev pub pool_step : PoolState → PoolEntry → PoolState
pool_step s (Mix text bits) = record s { text = s.text ++ text; bits = credit s.bits bits }
pool_step s (Input word kind code value now) =
    if value == s.value then s else pool_after_input s word kind code value now
pool_step s Bits = s
pool_step s (Extract hw base_place) = record s { key = Some (blake2s (Some (seed s)) (seed_block hw 0)); text = [] }

abbrev pub pool_after : List PoolEntry → PoolState
pool_after = fold pool_step pool_start

-- the base place that an entry names
abbrev pub base_place_of : PoolEntry → Option ℕ
base_place_of (Mix text bits) = None
base_place_of (Input word kind code value now) = None
base_place_of Bits = None
base_place_of (Extract hw base_place) = Some base_place

-- if the pool's entry at this place is an extraction, the base place that the extraction names
abbrev pub extraction_at : List PoolEntry → ℕ → Option ℕ
extraction_at pool p = option_and_then base_place_of (slice_get pool p)

-- the root that an extraction in the state s gives, with the hardware's bytes `hw`
abbrev pub root_of_extraction : PoolState → List ℕ → List ℕ
root_of_extraction s hw = blake2s (Some (seed s)) (seed_block hw 1)

-- the root that an entry gives if this entry is an extraction in the state s, and otherwise no bytes
abbrev pub root_given : PoolState → Option PoolEntry → List ℕ
root_given s (Some (Extract hw base_place)) = root_of_extraction s hw
root_given s (Some (Mix text bits)) = []
root_given s (Some (Input word kind code value now)) = []
root_given s (Some Bits) = []
root_given s None = []

-- the value of the root extracted at a pool place
abbrev pub root_value : List PoolEntry → ℕ → List ℕ
root_value pool p = root_given (pool_after (take p pool)) (slice_get pool p)
