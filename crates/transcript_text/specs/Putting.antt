-- Which part of a text was put in a sink.
use Rattle.std.specs.Prelude.{ℕ, ◌≡◌, List, ◌++◌, Option}
use Rattle.std.specs.Io.KnownBytes.{Appends}

-- the sink's bytes changed from `old` to `new`: `front`, the first part of `text`, was appended, and `rest` is the part
-- that remains to be put
pub record PutSoFar (old new : Option (List ℕ)) (text rest : List ℕ) : Type 0 where
  pub front : List ℕ
  pub whole : front ++ rest ≡ text
  pub appends : Appends old new front
