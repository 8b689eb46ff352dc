-- A copy of bytes out of a vgetrandom state: first the rest of the batch, then whole blocks of the key, then the front
-- of a new batch. A key that makes blocks is erased (fast key erasure), and served bytes become 0.
use Rattle.std.specs.Prelude.{ℕ, zero, suc, ◌+◌, ◌-◌, ◌*◌, ◌/◌, ◌%◌, min, Bool, not, ◌&&◌, ◌==◌, List, [], ◌∷◌, ◌++◌}
use Rattle.std.specs.Prelude.{take, drop, nat_le, if◌then◌else◌}
use Rattle.key_names.specs.declared.entries.VEntry.{VEntry}
use Rattle.key_names.specs.declared.entries.VEntry.TheVariants.{Blocks, Refill, Serve}
use Rattle.key_names.specs.Kernel.Batches.{with_zeros}
use Rattle.key_names.specs.Kernel.Keystream.{keystream}
use Rattle.key_names.specs.Kernel.VgetrandomState.{VgetrandomState}

-- the number of bytes of the batch that were not served yet
abbrev pub bytes_left : VgetrandomState → ℕ
bytes_left s = 96 - s.pos

-- how many whole blocks of the keystream a copy of n bytes needs; below, how many bytes of a new batch it needs
abbrev pub whole_blocks : VgetrandomState → ℕ → ℕ
whole_blocks s n = (n - bytes_left s) / 64

abbrev pub new_batch_bytes : VgetrandomState → ℕ → ℕ
new_batch_bytes s n = (n - bytes_left s) % 64

-- the bytes that a copy of n bytes serves: first those left in the batch, and then the keystream of the key from block
-- c on
abbrev pub copy_bytes : VgetrandomState → ℕ → ℕ → List ℕ
copy_bytes s c n =
    take (min n (bytes_left s)) (drop s.pos s.batch) ++ keystream s.key (64 * c) (n - bytes_left s)

-- the state after the batch alone served n bytes
abbrev pub state_of_same_batch : VgetrandomState → ℕ → VgetrandomState
state_of_same_batch s n = record s { batch = with_zeros s.pos n s.batch; pos = s.pos + n }

-- the state with a new batch and a new key, both from the old key's keystream from block c on. The first r bytes of the
-- new batch are served
abbrev pub state_of_new_batch : VgetrandomState → ℕ → ℕ → VgetrandomState
state_of_new_batch s c r = record s {
  batch = with_zeros 0 r (keystream s.key (64 * c) 96);
  key = keystream s.key (64 * c + 96) 32;
  pos = r;
}

-- whether the batch alone serves n bytes
abbrev pub has_left : VgetrandomState → ℕ → Bool
has_left s n = nat_le n (bytes_left s)

abbrev pub state_after_copy : VgetrandomState → ℕ → ℕ → VgetrandomState
state_after_copy s c n =
    if has_left s n then state_of_same_batch s n else state_of_new_batch s (c + whole_blocks s n) (new_batch_bytes s n)

-- the number of the next block after a copy that begins at block c; a new batch and its key take two blocks
abbrev pub block_after_copy : VgetrandomState → ℕ → ℕ → ℕ
block_after_copy s c n = if has_left s n then c else c + whole_blocks s n + 2

-- the entry for serving bytes of the batch from byte `pos` on. If no bytes are served, there is no entry
abbrev pub serve_entry : ℕ → ℕ → List VEntry
serve_entry pos zero = []
serve_entry pos (suc len) = Serve pos (suc len) ∷ []

abbrev pub blocks_entry : ℕ → ℕ → List VEntry
blocks_entry c zero = []
blocks_entry c (suc m) = Blocks c (suc m) ∷ []

-- the entries for m whole blocks from block c on, and for a new batch with r bytes served
abbrev pub refill_entries : ℕ → ℕ → ℕ → List VEntry
refill_entries c m r = blocks_entry c m ++ Refill (c + m) ∷ serve_entry 0 r

-- the entries that a copy leaves in the state's list
abbrev pub copy_entries : VgetrandomState → ℕ → ℕ → List VEntry
copy_entries s c n =
    if has_left s n then serve_entry s.pos n
    else serve_entry s.pos (bytes_left s) ++ refill_entries c (whole_blocks s n) (new_batch_bytes s n)

-- whether a copy of n bytes may be made without a vgetrandom call; g is the published generation
abbrev pub serves_locally : ℕ → VgetrandomState → ℕ → Bool
serves_locally g s n = not (g == 0) && (g == s.generation && (not s.in_use && has_left s n))
