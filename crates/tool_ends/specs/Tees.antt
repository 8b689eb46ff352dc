-- A tee source keeps the first bytes of the text that is taken from it. A tee sink keeps the first bytes of the last
-- piece that is put to it.
use Rattle.std.specs.Prelude.{ℕ, Bool, ◌≡◌, ◌≤◌, ◌++◌, IsTrue, List, length, take}
use Rattle.tool_ends.specs.declared.tee.TeeSource.{TeeSource}
use Rattle.tool_ends.specs.declared.tee.TeeSink.{TeeSink}

abbrev pub tee_source : {S : Type 0} → TeeSource S → S
tee_source tee = tee.source

abbrev pub tee_sink : {K : Type 0} → TeeSink K → K
tee_sink tee = tee.sink

-- whether the tee has kept all bytes that were taken from it
abbrev pub keeps_all : {S : Type 0} → TeeSource S → Bool
keeps_all tee = tee.is_whole

-- `text` was taken from the tee. The tee has kept a prefix of `text`, of at most `most` bytes
pub record HasGiven {S : Type 0} (text : List ℕ) (tee : TeeSource S) : Type 0 where
  pub following : List ℕ
  pub front : text ≡ tee.front.items ++ following
  pub whole : IsTrue tee.is_whole → text ≡ tee.front.items
  pub few : length tee.front.items ≤ tee.most

-- `piece` is the last piece that was put to the tee. The tee has kept the first 32 bytes of `piece`, or all of them if
-- there are fewer
abbrev pub HasGot : {K : Type 0} → List ℕ → TeeSink K → Type 0
HasGot piece tee = tee.last.items ≡ take 32 piece
