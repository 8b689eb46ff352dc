-- How much of a text was put, or how much of an input was taken, before a call failed.
use Rattle.std.specs.Prelude.{ℕ, ◌≤◌, List, Option, length, take}
use Rattle.std.specs.Io.KnownBytes.{Appends, Consumes}

-- the bytes that a sink exposes (None if it exposes none) grew by the first n bytes of `text`, for some n
abbrev pub AppendsPrefix : Option (List ℕ) → Option (List ℕ) → List ℕ → Type 0
AppendsPrefix old new text = (n : ℕ) × (n ≤ length text) × Appends old new (take n text)

-- the bytes that a source exposes (None if it exposes none) lost a prefix of at most `most` bytes
abbrev pub ConsumesUpTo : ℕ → Option (List ℕ) → Option (List ℕ) → Type 0
ConsumesUpTo most old new = (front : List ℕ) × (length front ≤ most) × Consumes old new front
