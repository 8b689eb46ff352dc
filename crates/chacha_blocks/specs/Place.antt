-- A place in a key's keystream, and `rand_chacha`'s generator at that place.
use Rattle.std.specs.Prelude.{ℕ, List}
use Rattle.rand_chacha.specs.ChaCha.{ChaCha, of_seed}

-- the bytes of the key, and the number of the next word of its keystream
pub record Place : Type 0 where
  pub key : List ℕ
  pub word : ℕ

-- the generator of the given key, with stream 0, whose next word has the given number
abbrev pub generator_at : List ℕ → ℕ → ChaCha
generator_at key word = record (of_seed key) { word_pos = word }
