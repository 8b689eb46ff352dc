-- For callers of the crate: a mix, or a mix followed by a credit, changes the pool like one entry of the pool's list.
use Rattle.std.proofs.Common.{◌≡◌, ◌≢◌, ℕ, ◌<◌, ◌≤◌, List, ◌++◌, arith, append_assoc, refl, ◌∙◌, w32, w64}
use Rattle.std.proofs.lemmas.Bool.{lt-ltb, le-ltb, ne_eqb}
use Rattle.std.specs.Int.{to_le_bytes}
use Rattle.key_names.specs.declared.entries.PoolEntry.TheVariants.{Mix, Input}
use Rattle.key_names.specs.Kernel.InputTimer.{input_number, input_timer_after, timer_bits}
use Rattle.key_names.specs.Lanes.PoolList.{PoolState, credit, crossing, pool_step}
use Rattle.input_pool.specs.PoolConforms.{PoolParts, PoolConforms}

-- `mixed` is the state after bytes are mixed; `mixed_and_credited` is the state after these bytes are also credited
abbrev pub mixed : PoolState → List ℕ → PoolState
mixed s text = pool_step s (Mix text 0)

abbrev pub mixed_and_credited : PoolState → List ℕ → ℕ → PoolState
mixed_and_credited s text bits = record (mixed s text) { bits = credit (mixed s text).bits bits }

-- a credit of 0 changes nothing
pub credit-none : (bits : ℕ) → bits ≤ 256 → credit bits 0 ≡ bits
credit-none bits capped = omega arith

pub credit-after_none : (bits more : ℕ) → credit (credit bits 0) more ≡ credit bits more
credit-after_none bits more = omega arith

-- two mixes in sequence equal one mix of the joined texts
pub mixed-mixed : (s : PoolState) (front rest : List ℕ) → mixed (mixed s front) rest ≡ mixed s (front ++ rest)
mixed-mixed s front rest = rw (append_assoc s.text front rest, credit-after_none s.bits 0) refl

-- a mix of `text` and then a credit of `bits` change the pool like the one entry `Mix text bits`
pub PoolConforms-mix : (pool : PoolParts) (s : PoolState) (text : List ℕ) (bits : ℕ)
    → PoolConforms pool (mixed_and_credited s text bits) → PoolConforms pool (pool_step s (Mix text bits))
PoolConforms-mix pool s text bits conforms = record {
  hashed = conforms.hashed;
  credited = conforms.credited ∙ credit-after_none s.bits bits;
  capped = omega arith;
}

-- a mix of `text` and then a credit of `bits` cross the same threshold as the one entry `Mix text bits`. Either both
-- cross it, or neither crosses any
pub crossing-mix : (before between after : PoolParts) (s : PoolState) (text : List ℕ) (bits : ℕ) → PoolConforms before s
    → PoolConforms between (mixed s text) → PoolConforms after (mixed_and_credited s text bits)
    → crossing between.bits after.bits ≡ crossing s.bits (pool_step s (Mix text bits)).bits
crossing-mix before between after s text bits first second third =
    let uncredited = second.credited ∙ credit-none s.bits first.capped in
    let credited = third.credited ∙ credit-after_none s.bits bits in
    rw (uncredited, credited) refl

-- the bytes that an input event mixes
abbrev pub input_bytes : ℕ → ℕ → ℕ → ℕ → List ℕ
input_bytes word kind code value = to_le_bytes w64 word ++ to_le_bytes w32 (input_number kind code value)

-- while the bits are below 256, an input event with a new value mixes its bytes and credits the bits that the timer
-- gives
pub pool_step-timed : (s : PoolState) (word kind code value now : ℕ) → value ≢ s.value → s.bits < 256
    → pool_step s (Input word kind code value now) ≡ record s {
      text = s.text ++ input_bytes word kind code value;
      value = value;
      bits = credit s.bits (timer_bits s.timer now);
      timer = input_timer_after s.timer now;
    }
pool_step-timed s word kind code value now fresh room =
    let number = to_le_bytes w32 (input_number kind code value) in
    rw (ne_eqb value s.value fresh, lt-ltb s.bits 256 room, append_assoc s.text (to_le_bytes w64 word) number) refl

pub PoolConforms-timed : (pool : PoolParts) (s : PoolState) (word kind code value now : ℕ) → value ≢ s.value
    → s.bits < 256
    → PoolConforms pool (mixed_and_credited s (input_bytes word kind code value) (timer_bits s.timer now))
    → PoolConforms pool (pool_step s (Input word kind code value now))
PoolConforms-timed pool s word kind code value now fresh room conforms =
    let entry = PoolConforms-mix pool s (input_bytes word kind code value) (timer_bits s.timer now) conforms in
    rw (pool_step-timed s word kind code value now fresh room) (record {
      hashed = entry.hashed;
      credited = entry.credited;
      capped = entry.capped;
    })

-- once 256 bits are credited, an input event with a new value only mixes its bytes
pub pool_step-untimed : (s : PoolState) (word kind code value now : ℕ) → value ≢ s.value → 256 ≤ s.bits
    → pool_step s (Input word kind code value now)
    ≡ record s { text = s.text ++ input_bytes word kind code value; value = value }
pool_step-untimed s word kind code value now fresh full =
    let number = to_le_bytes w32 (input_number kind code value) in
    rw (ne_eqb value s.value fresh, le-ltb s.bits 256 full, append_assoc s.text (to_le_bytes w64 word) number) refl

pub PoolConforms-untimed : (before pool : PoolParts) (s : PoolState) (word kind code value now : ℕ)
    → value ≢ s.value → PoolConforms before s → 256 ≤ s.bits
    → PoolConforms pool (mixed s (input_bytes word kind code value))
    → PoolConforms pool (pool_step s (Input word kind code value now))
PoolConforms-untimed before pool s word kind code value now fresh stood full conforms =
    rw (pool_step-untimed s word kind code value now fresh full) (record {
      hashed = conforms.hashed;
      credited = conforms.credited ∙ credit-none s.bits stood.capped;
      capped = stood.capped;
    })
