-- The rest of a read: the bytes that it makes after it released the lane whose key it used.
use Rattle.std.specs.Prelude.{◌≡◌, ℕ, ◌-◌, ◌*◌, ◌<◌, ◌≤◌, ◌^◌, ◌++◌, List, length, take}
use Rattle.key_names.specs.declared.entries.Taken.{Taken}
use Rattle.key_names.specs.Kernel.Keystream.{keystream}
use Rattle.rng_core.specs.Reading.{taken_count}
use Rattle.rng_core.specs.declared.crng.rest.Rest.{Rest}

-- the read asks for as many bytes as `bytes` has: at least one, and at most 2^20
pub record Asks (taken : Taken) (bytes : List ℕ) : Type 0 where
  pub count : taken_count taken ≡ length bytes
  pub some : 0 < length bytes
  pub short : length bytes ≤ 2 ^ 20

-- the bytes that were made so far, followed by bytes of the key's next blocks
abbrev pub finished : Rest → List ℕ → List ℕ
finished r bytes = take r.made bytes ++ keystream r.key.key (64 * r.key.next_block) (length bytes - r.made)

-- at most 32 of the bytes are made, and the rest begins at block 1
pub record IsBegun (r : Rest) (bytes : List ℕ) : Type 0 where
  pub made : r.made ≤ length bytes
  pub few : r.made ≤ 32
  pub first : r.key.next_block ≡ 1
  pub short : length bytes ≤ 2 ^ 20
