-- The bytes of a key's keystream that a copy out of a vgetrandom state takes.
use Rattle.std.proofs.Common.{◌≡◌, ℕ, ◌+◌, ◌*◌, ◌/◌, ◌%◌, ◌≤◌, List, ◌++◌, take, drop, refl, ap, ◌∙◌, arith}
use Rattle.key_names.specs.Kernel.Keystream.{keystream}
use Rattle.key_names.specs.Kernel.VgetrandomState.{VgetrandomState}
use Rattle.key_names.specs.Kernel.BatchCopy.{state_of_same_batch, state_of_new_batch}
use Rattle.key_names.proofs.Standards.Keystreams.{keystream-append, take-keystream}

-- the state `s` after a refill from `block` of its key's keystream: with a new batch, of which no byte is served, and
-- the next key
abbrev pub refilled : VgetrandomState → ℕ → VgetrandomState
refilled s block = record s {
  batch = keystream s.key (64 * block) 96;
  key = keystream s.key (64 * block + 96) 32;
  pos = 0;
}

-- let `refilled_state` be the state `s` after a refill from `block`, and `t` the state after `r` bytes of the new batch
-- were served. Then `t` is `state_of_new_batch s block r`
pub state_at : (s refilled_state t : VgetrandomState) (block r m : ℕ) → refilled_state ≡ refilled s block → m ≡ r →
    t ≡ state_of_same_batch refilled_state m → t ≡ state_of_new_batch s block r
state_at s u t block r m new same is = let sum : 0 + r ≡ r = omega arith in rw (is, new, same, sum) refl

-- the whole blocks of a copy of `n` bytes, and the front of the new batch after them, together are `n` bytes of the
-- keystream from block `c` on
pub bytes_at : (key : List ℕ) (c n : ℕ) (blocks batch front : List ℕ) →
    blocks ≡ keystream key (64 * c) (n / 64 * 64) → batch ≡ keystream key (64 * (c + n / 64)) 96 →
    front ≡ take (n % 64) (drop 0 batch) → blocks ++ front ≡ keystream key (64 * c) n
bytes_at key c n blocks batch front blocks_at batch_at is =
    let within : n % 64 ≤ 96 = omega arith in
    let all : n / 64 * 64 + n % 64 ≡ n = omega arith in
    let place : 64 * (c + n / 64) ≡ 64 * c + n / 64 * 64 = omega arith in
    let front_at : front ≡ keystream key (64 * c + n / 64 * 64) (n % 64) =
    is ∙ ap (take (n % 64)) batch_at ∙ take-keystream key (64 * (c + n / 64)) 96 (n % 64) within
    ∙ ap (λ q. keystream key q (n % 64)) place in
    rw (blocks_at, front_at) (keystream-append key (64 * c) (n / 64 * 64) (64 * c + n / 64 * 64) (n % 64) n all
    (λ some. refl))
