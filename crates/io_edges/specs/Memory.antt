-- What each call does to a source or a sink in memory.
use Rattle.std.specs.Prelude.{ℕ, ◌-◌, ◌≡◌, ◌==◌, ◌<◌, ◌⊎◌, Bool, IsTrue, min, List, ◌++◌, length, take, drop}
use Rattle.std.specs.List.{list_any}
use Rattle.io_edges.specs.Faults.{next_count}

-- whether `fails` lists the number; if so, the call with this number fails
abbrev pub is_listed : ℕ → List ℕ → Bool
is_listed number fails = list_any (λ k. k == number) fails

-- a source in memory: the bytes left, the most that a call gives, the numbers of the calls that fail, and the counts
-- of calls and faults
pub record SourceState : Type 0 where
  pub left : List ℕ
  pub step : ℕ
  pub fails : List ℕ
  pub calls : ℕ
  pub faults : ℕ

-- the source's next call fails
abbrev pub TakeFails : SourceState → Type 0
TakeFails s = IsTrue (is_listed (next_count s.calls) s.fails)

-- how many bytes a call of the source gives into a buffer of `len` bytes
abbrev pub count_given : SourceState → ℕ → ℕ
count_given s len = min len (min s.step (length s.left))

-- the source after a call that gave `n` bytes
abbrev pub after_take : SourceState → ℕ → SourceState
after_take s n = record s { left = drop n s.left; calls = next_count s.calls }

-- the source after a call that failed
abbrev pub after_failed_take : SourceState → SourceState
after_failed_take s = record s { calls = next_count s.calls; faults = next_count s.faults }

-- a sink in memory: the bytes that it holds, the most that a put takes, the numbers of the puts that fail, whether
-- flushes fail, its room, and the counts of puts and faults
pub record SinkState : Type 0 where
  pub held : List ℕ
  pub step : ℕ
  pub fails : List ℕ
  pub flush_fails : Bool
  pub room : ℕ
  pub calls : ℕ
  pub faults : ℕ

-- the sink's next put, of `piece`, fails: the number of the put is listed, or `piece` has bytes and the sink has no
-- room
abbrev pub PutFails : SinkState → List ℕ → Type 0
PutFails s piece = IsTrue (is_listed (next_count s.calls) s.fails) ⊎ ((0 < length piece) × (s.room ≡ length s.held))

-- how many bytes a put takes of a piece of `len` bytes
abbrev pub count_taken : SinkState → ℕ → ℕ
count_taken s len = min len (min s.step (s.room - length s.held))

-- the sink after a put that took `n` bytes of `piece`
abbrev pub after_put : SinkState → List ℕ → ℕ → SinkState
after_put s piece n = record s { held = s.held ++ take n piece; calls = next_count s.calls }

-- the sink after a put that failed
abbrev pub after_failed_put : SinkState → SinkState
after_failed_put s = record s { calls = next_count s.calls; faults = next_count s.faults }

-- the sink after a flush that failed
abbrev pub after_failed_flush : SinkState → SinkState
after_failed_flush s = record s { faults = next_count s.faults }
