-- How the bytes of a read are made: the first bytes exist already, and the others are a piece of a key's keystream.
use Rattle.std.specs.Prelude.{ℕ, ◌+◌, ◌-◌, ◌*◌, min, List, [], ◌++◌, take, drop, nat_lt, if◌then◌else◌}
use Rattle.key_names.specs.Kernel.Keystream.{keystream}
use Rattle.key_names.specs.Keys.KeyInUse.{zero_key}
use Rattle.key_names.specs.Kernel.VgetrandomState.{VgetrandomState}
use Rattle.key_names.specs.Kernel.BatchCopy.{bytes_left}

-- the bytes `front` that exist already, and then `len` bytes of the key's keystream from position `from` on
pub record Recipe : Type 0 where
  pub front : List ℕ
  pub key : List ℕ
  pub from : ℕ
  pub len : ℕ

abbrev pub bytes_made : Recipe → List ℕ
bytes_made r = r.front ++ keystream r.key r.from r.len

abbrev pub no_recipe : Recipe
no_recipe = record { front = []; key = zero_key; from = 0; len = 0 }

-- the recipe for a user's read of n bytes with this key in use; if n exceeds 32, the bytes are those of a call key
abbrev pub user_recipe : List ℕ → ℕ → Recipe
user_recipe key n =
    if nat_lt 32 n then record { front = []; key = keystream key 32 32; from = 64; len = n }
    else record { front = []; key = key; from = 32; len = n }

abbrev pub kernel_recipe : List ℕ → ℕ → Recipe
kernel_recipe key n = record { front = []; key = key; from = 32; len = n }

-- the recipe for the integer of `width` bytes that a batch serves after `count` others; `key` was in use when the batch
-- was filled
abbrev pub int_recipe : List ℕ → ℕ → ℕ → Recipe
int_recipe key width count = record { front = []; key = key; from = 32 + width * count; len = width }

-- the recipe for n bytes that are copied out of a state; `c` is the next block of the state's key
abbrev pub copy_recipe : VgetrandomState → ℕ → ℕ → Recipe
copy_recipe s c n = record {
  front = take (min n (bytes_left s)) (drop s.pos s.batch);
  key = s.key;
  from = 64 * c;
  len = n - bytes_left s;
}
