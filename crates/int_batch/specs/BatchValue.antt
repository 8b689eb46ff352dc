-- A batch in contracts, and how its calls change it.
use Rattle.std.specs.Prelude.{ℕ, ◌≡◌, ◌+◌, ◌*◌, ◌/◌, Bool, Some, None, MatchBool, List, length, drop, replicate, slice_range}
use Rattle.key_names.specs.Kernel.Keystream.{keystream}
use Rattle.key_names.specs.Kernel.Batches.{Fill, must_fill, with_zeros}

pub record BatchValue : Type 0 where
  -- the batch's 96 bytes
  pub bytes : List ℕ
  -- how many integers were served since the last fill
  pub position : ℕ
  -- the generation of the last fill
  pub generation : ℕ

-- a batch that is used up, for integers of `width` bytes
abbrev pub start : ℕ → BatchValue
start width = record { bytes = replicate 96 0; position = 96 / width; generation = 0 }

-- the last fill of a batch, as far as the batch keeps it: the count and the generation, but no key and no place
abbrev pub last_fill : BatchValue → Fill
last_fill b = record { key = None; place = 0; count = b.position; look = b.generation }

-- whether the batch has to be filled before it serves an integer at generation `g`
abbrev pub wants : ℕ → ℕ → BatchValue → Bool
wants g width b = must_fill g width (Some (last_fill b))

-- the batch after a fill with `bytes` at generation `g`
abbrev pub filled : List ℕ → ℕ → BatchValue
filled bytes g = record { bytes = bytes; position = 0; generation = g }

-- the bytes of the next integer that the batch serves
abbrev pub next_bytes : ℕ → BatchValue → List ℕ
next_bytes width b = slice_range b.bytes (width * b.position) (width * b.position + width)

-- the batch after its next integer was served
abbrev pub after_serving : ℕ → BatchValue → BatchValue
after_serving width b = record b {
  bytes = with_zeros (width * b.position) width b.bytes;
  position = b.position + 1;
}

-- the batch `b` serves the integer `entry`, and then is `after`
abbrev pub Serves : ℕ → BatchValue → List ℕ → BatchValue → Type 0
Serves width b entry after = (entry ≡ next_bytes width b) × (after ≡ after_serving width b)

-- the batch `b` serves the integer `entry` at generation `g`, and then is `after`. If the batch has to be filled first,
-- `Fills` holds for the new bytes
abbrev pub ServesAt : ℕ → ℕ → (List ℕ → Type 0) → BatchValue → List ℕ → BatchValue → Type 0
ServesAt width g Fills b entry after =
    MatchBool (wants g width b) ((bytes : List ℕ) × Fills bytes × Serves width (filled bytes g) entry after)
    (Serves width b entry after)

-- the batch `b` has the count and the generation of `fill`, and 96 bytes. The bytes that were not served yet come from
-- the keystream of `key`
pub record IsBatchOf (width : ℕ) (key : List ℕ) (fill : Fill) (b : BatchValue) : Type 0 where
  pub position : b.position ≡ fill.count
  pub generation : b.generation ≡ fill.look
  pub len : length b.bytes ≡ 96
  pub rest : drop (width * fill.count) b.bytes ≡ drop (width * fill.count) (keystream key 32 96)
