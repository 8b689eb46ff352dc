-- The state of a hash of a key and a text, before the last block is hashed.
use Rattle.std.specs.Prelude.{◌≡◌, ℕ, ◌*◌, ◌%◌, ◌^◌, Option, List, drop}
use Rattle.std.specs.List.{fold}
use Rattle.key_names.specs.Kernel.Blake2s.{compressed, inner_blocks, inner_count, key_len, message, start_words}

-- the hash words, the bytes that are in no hashed block yet, and the number of bytes in the hashed blocks
pub record Hash : Type 0 where
  pub words : List ℕ
  pub rest : List ℕ
  pub count : ℕ

-- `words` and `count` are the hash words and the count after the first n blocks of a message; none of these blocks is
-- the message's last
pub record IsAfter (words : List ℕ) (count : ℕ) (start bytes : List ℕ) (n : ℕ) : Type 0 where
  pub hashed : words ≡ fold compressed start (inner_blocks bytes n)
  pub counted : count ≡ 64 * n % 2 ^ 64

-- the hash matches the key and the text, which together make a message: all blocks of the message but the last were
-- hashed, and the last is kept
pub record Conforms (hash : Hash) (key : Option (List ℕ)) (text : List ℕ) : Type 0 where
  pub blocks : IsAfter hash.words hash.count (start_words (key_len key)) (message key text)
      (inner_count (message key text))
  pub last : hash.rest ≡ drop (64 * inner_count (message key text)) (message key text)
