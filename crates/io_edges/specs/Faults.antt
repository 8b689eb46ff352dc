-- Counts that never fall, and stop at the highest number of a `u64`.
use Rattle.std.specs.Prelude.{ℕ, ◌+◌, ◌-◌, ◌^◌, ◌≤◌, min}

-- one more than the given count, but at most 2^64 - 1
abbrev pub next_count : ℕ → ℕ
next_count n = min (n + 1) (2 ^ 64 - 1)

-- the count rose from `before` to `after`, or it was already at its highest
abbrev pub Rose : ℕ → ℕ → Type 0
Rose before after = (before ≤ after) × (next_count before ≤ after)
