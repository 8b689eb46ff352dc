-- Batched integers (get_random_u8 to get_random_u64): when a batch is filled, which bytes it serves, and which it still
-- holds. A batch has 96 bytes of one key's keystream, and serves integers of one width.
use Rattle.std.specs.Prelude.{ℕ, suc, ◌+◌, ◌*◌, ◌/◌, Bool, true, false, not, ◌||◌, ◌==◌, Option, Some, None, List, ◌++◌}
use Rattle.std.specs.Prelude.{take, drop, replicate, nat_le, if◌then◌else◌}
use Rattle.key_names.specs.declared.names.KeyName.{KeyName}
use Rattle.key_names.specs.declared.entries.CpuEntry.{CpuEntry}
use Rattle.key_names.specs.declared.entries.CpuEntry.TheVariants.{Read, Int, Irq, Dump, Prepare, Online}
use Rattle.key_names.specs.Kernel.Keystream.{keystream}

-- the last fill of a batch: the key in use at the fill, the fill's place in the CPU's list, the number of integers that
-- the batch has served since, and the generation that the fill's look found
pub record Fill : Type 0 where
  pub key : Option KeyName
  pub place : ℕ
  pub count : ℕ
  pub look : ℕ

-- the fill after one more integer was served
abbrev pub one_more_served : Option Fill → Option Fill
one_more_served None = None
one_more_served (Some fill) = Some (record fill { count = suc fill.count })

-- the last fill of width w after the entry at a place, given the key in use there and the last fills before the entry.
-- A CPU that is prepared loses its fills
abbrev pub fills_after : ℕ → CpuEntry → Option KeyName → (ℕ → Option Fill) → ℕ → Option Fill
fills_after place (Read look refill taken) key fills w = fills w
fills_after place (Int look refill width true) key fills w =
    if w == width then Some (record { key = key; place = place; count = 1; look = look }) else fills w
fills_after place (Int look refill width false) key fills w = if w == width then one_more_served (fills w) else fills w
fills_after place (Irq v1 v2 now) key fills w = fills w
fills_after place (Dump now) key fills w = fills w
fills_after place Prepare key fills w = None
fills_after place Online key fills w = fills w

-- whether an integer of this width fills its batch first: the batch has no fill, is used up, or was filled at another
-- look
abbrev pub must_fill : ℕ → ℕ → Option Fill → Bool
must_fill look width None = true
must_fill look width (Some fill) = nat_le (96 / width) fill.count || not (look == fill.look)

-- the integer that a batch filled with this key serves after its first `count` integers
abbrev pub batched_int : List ℕ → ℕ → ℕ → List ℕ
batched_int key width count = keystream key (32 + width * count) width

-- the number of bytes of a batch that were served
abbrev pub batch_pos : ℕ → Option Fill → ℕ
batch_pos width None = 0
batch_pos width (Some fill) = width * fill.count

-- `bytes`, with the `len` bytes from `from` on set to 0
abbrev pub with_zeros : ℕ → ℕ → List ℕ → List ℕ
with_zeros from len bytes = take from bytes ++ replicate len 0 ++ drop (from + len) bytes

-- the bytes of the batch of width `w` after an entry. `used` is the value of the key in use, and `fill` is the last
-- fill before the entry
abbrev pub batch_step : ℕ → List ℕ → Option Fill → List ℕ → CpuEntry → List ℕ
batch_step w used fill bytes (Read look refill taken) = bytes
batch_step w used fill bytes (Int look refill width true) =
    if w == width then with_zeros 0 w (keystream used 32 96) else bytes
batch_step w used fill bytes (Int look refill width false) =
    if w == width then with_zeros (batch_pos w fill) w bytes else bytes
batch_step w used fill bytes (Irq v1 v2 now) = bytes
batch_step w used fill bytes (Dump now) = bytes
batch_step w used fill bytes Prepare = replicate 96 0
batch_step w used fill bytes Online = bytes
